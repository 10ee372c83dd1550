-- A plane: its geometry and its buffer. The geometry cuts the buffer into pieces. The visible
-- pieces are the table of the plane, and all others are its border.
use Rattle.std.specs.Prelude.{◌≡◌, All, List, [], ◌∷◌, ◌++◌, length, map, take, drop, replicate, Option, Some, IsSome}
use Rattle.std.specs.List.{refill}
use Rattle.v_frame_raster.specs.Geometry.{Geometry, Mark, Border, Visible, Piece, cutting_plan, alloc_size_of}
use Rattle.v_frame_raster.specs.Geometry.{whole_geometry, Fits}

-- A plane: its geometry, and its whole buffer, row by row from the top.
pub record Raster (T : Type 0) : Type 0 where
  pub geometry : Geometry
  pub buffer : List T

-- The plane with this geometry and this buffer.
abbrev pub raster : {T : Type 0} → Geometry → List T → Raster T
raster geometry buffer = record { geometry = geometry; buffer = buffer }

-- A geometry and a buffer form a plane if the geometry fits and the buffer has the size that the
-- geometry specifies.
pub record IsWhole {T : Type 0} (geometry : Geometry) (buffer : List T) : Type 0 where
  pub fits : Fits geometry
  pub whole : length buffer ≡ alloc_size_of geometry

-- A plane whose entries all have one value, including the border.
abbrev pub filled : {T : Type 0} → T → Geometry → Raster T
filled value geometry = raster geometry (replicate (alloc_size_of geometry) value)

module _ {T : Type 0} where
  -- The buffer cut into consecutive pieces.
  abbrev pub cut_by : List Piece → List T → List (Mark × List T)
  cut_by [] xs = []
  cut_by (piece ∷ plan) xs =
      (piece.mark, take piece.entries xs) ∷ cut_by plan (drop piece.entries xs)

  -- The contribution of a piece to the table.
  abbrev pub if_visible : Mark → List T → List (List T)
  if_visible Border xs = []
  if_visible Visible xs = xs ∷ []

  -- The contribution of a piece to the border.
  abbrev pub if_border : Mark → List T → List (List T)
  if_border Border xs = xs ∷ []
  if_border Visible xs = []

  -- The visible pieces of a buffer that was cut into pieces.
  abbrev pub visible_pieces : List (Mark × List T) → List (List T)
  visible_pieces [] = []
  visible_pieces (piece ∷ pieces) = if_visible piece.0 piece.1 ++ visible_pieces pieces

  -- The border pieces of a buffer that was cut into pieces.
  abbrev pub border_pieces : List (Mark × List T) → List (List T)
  border_pieces [] = []
  border_pieces (piece ∷ pieces) = if_border piece.0 piece.1 ++ border_pieces pieces

  -- The buffer of a plane, cut into the pieces that its geometry specifies.
  abbrev pub picture : Raster T → List (Mark × List T)
  picture plane = cut_by (cutting_plan plane.geometry) plane.buffer

  -- The table of a plane: its visible rows, from top to bottom.
  abbrev pub table_of : Raster T → List (List T)
  table_of plane = visible_pieces (picture plane)

  -- The border of a plane, piece by piece.
  abbrev pub border_of : Raster T → List (List T)
  border_of plane = border_pieces (picture plane)

  -- The rows of the whole buffer of a plane, from top to bottom, including the border.
  abbrev pub whole_rows : Raster T → List (List T)
  whole_rows plane = table_of (raster (whole_geometry plane.geometry) plane.buffer)

  -- Everything in a plane except its visible pixels.
  abbrev pub border_and_geometry : Raster T → Geometry × List (List T)
  border_and_geometry plane = (plane.geometry, border_of plane)

  -- The two planes differ at most in their visible pixels. Their geometries and their borders are
  -- equal.
  abbrev pub KeepsBorder : Raster T → Raster T → Type 0
  KeepsBorder old new = border_and_geometry new ≡ border_and_geometry old

  -- Every entry of the buffer is a value.
  abbrev pub IsFull : Raster (Option T) → Type 0
  IsFull plane = All IsSome plane.buffer

  -- The plane of options whose values are the entries of this plane.
  abbrev pub options_of : Raster T → Raster (Option T)
  options_of plane = raster plane.geometry (map Some plane.buffer)

-- The plane with other entries in its buffer. The length of the buffer is unchanged.
abbrev pub with_entries : {T : Type 0} → Raster T → List T → Raster T
with_entries plane entries =
    raster plane.geometry (refill (length plane.buffer) plane.buffer entries)
