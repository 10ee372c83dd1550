-- Rows of one width in a list, with a stride from the start of one row to the start of the next.
-- Decoders lay pictures out in this way, and so does a source of bytes with a stride.
use Rattle.std.specs.Prelude.{ℕ, ◌≡◌, ◌≢◌, ◌+◌, ◌-◌, ◌*◌, ◌<◌, ◌≤◌, List, length, map, slice_get, take}
use Rattle.v_frame_raster.specs.Pixel.{PixelForm, pixels_of_bytes}
use Rattle.v_frame_raster.specs.Table.{Table, width_of, height_of, cut_rows}

-- The source is cut into pieces of one stride, and the result is the front of each piece. The rest
-- of a piece is its tail.
abbrev pub piece_fronts : {S : Type 0} → ℕ → ℕ → ℕ → List S → List (List S)
piece_fronts front stride pieces source = map (take front) (cut_rows stride pieces source)

module _ {T : Type 0} (form : PixelForm T) where
  -- The table encoded by a source of bytes with a stride. The stride is counted in bytes.
  abbrev pub strided_table : ℕ → ℕ → ℕ → List ℕ → Table T
  strided_table width height stride source =
      map (pixels_of_bytes form width) (piece_fronts (width * form.size) stride height source)

-- The table of the rows. Each row is the front of a piece of one stride. The last piece may be
-- shorter than the stride.
abbrev pub strided_rows : {T : Type 0} → ℕ → ℕ → ℕ → List T → Table T
strided_rows width height stride entries = piece_fronts width stride height entries

-- Rows of this size and stride are not empty, do not overlap, and end within `entries` entries.
-- Nothing needs to follow the last row.
pub record RowsFit (width height stride entries : ℕ) : Type 0 where
  pub wide : 0 < width
  pub high : 0 < height
  pub apart : width ≤ stride
  pub within : stride * (height - 1) + width ≤ entries

-- A rectangle that begins at column x of row y is not empty and lies inside a table.
pub record IsInsideTable {T : Type 0} (rows : Table T) (x y width height : ℕ) : Type 0 where
  pub wide : 0 < width
  pub high : 0 < height
  pub across : x + width ≤ width_of rows
  pub down : y + height ≤ height_of rows

-- The new list differs from the old one only in these rows. Their lengths are equal, and each entry
-- outside the rows is unchanged.
pub record KeepsRest {T : Type 0} (width height stride : ℕ) (old new : List T) : Type 0 where
  pub count : length new ≡ length old
  pub others : (i : ℕ) → ((x y : ℕ) → x < width → y < height → i ≢ stride * y + x)
      → slice_get new i ≡ slice_get old i
