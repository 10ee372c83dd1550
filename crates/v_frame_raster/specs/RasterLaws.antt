-- Laws of pixel positions and of the tables of planes. Each is the contract of a function of a
-- module `laws`.
use Rattle.std.specs.Prelude.{ℕ, ◌≡◌, ◌+◌, ◌*◌, ◌<◌, ◌≤◌, length, take, drop, Some, None, slice_get}
use Rattle.v_frame_raster.specs.Geometry.{Geometry, stride_of, alloc_height_of, alloc_size_of, Mark, Border, Visible}
use Rattle.v_frame_raster.specs.Geometry.{cutting_plan, mark_at, place_of}
use Rattle.v_frame_raster.specs.Raster.{Raster, table_of, border_of, whole_rows}
use Rattle.v_frame_raster.specs.Table.{pixel_at, rectangle}

-- The geometry, the table and the border together determine the buffer, if it has the size that the
-- geometry specifies.
abbrev pub DeterminesBuffer : Type 0 → Type 0
DeterminesBuffer T =
    (p q : Raster T) → length p.buffer ≡ alloc_size_of p.geometry → length q.buffer
    ≡ alloc_size_of q.geometry
    → p.geometry ≡ q.geometry → table_of p ≡ table_of q → border_of p ≡ border_of q → p ≡ q

-- Each visible pixel has its own index in the buffer, which lies in no border piece.
pub record HasPlaces (g : Geometry) : Type 0 where
  pub within : (x y : ℕ) → x < g.width → y < g.height → place_of g x y < alloc_size_of g
  pub visible : (x y : ℕ) → x < g.width → y < g.height → mark_at (cutting_plan g) (place_of g x y)
      ≡ Some Visible
  pub apart : (x y x' y' : ℕ) → x < g.width → y < g.height → x' < g.width → y' < g.height
      → place_of g x y ≡ place_of g x' y' → (x ≡ x') × (y ≡ y')

-- The mark of each index, given by row and column of the buffer: border above, below, to the left
-- and to the right of the visible rectangle. An index past the end of the buffer has no mark.
pub record HasMarks (g : Geometry) : Type 0 where
  pub above : (row column : ℕ) → row < g.pad_top → column < stride_of g
      → mark_at (cutting_plan g) (row * stride_of g + column) ≡ Some Border
  pub left : (y column : ℕ) → y < g.height → column < g.pad_left
      → mark_at (cutting_plan g) ((g.pad_top + y) * stride_of g + column) ≡ Some Border
  pub visible : (x y : ℕ) → x < g.width → y < g.height
      → mark_at (cutting_plan g) ((g.pad_top + y) * stride_of g + (g.pad_left + x)) ≡ Some Visible
  pub right : (y column : ℕ) → y < g.height → g.pad_left + g.width ≤ column → column < stride_of g
      → mark_at (cutting_plan g) ((g.pad_top + y) * stride_of g + column) ≡ Some Border
  pub below : (row column : ℕ) → g.pad_top + g.height ≤ row → row < alloc_height_of g
      → column < stride_of g → mark_at (cutting_plan g) (row * stride_of g + column) ≡ Some Border
  pub past : (place : ℕ) → alloc_size_of g ≤ place → mark_at (cutting_plan g) place ≡ None

module _ {T : Type 0} where
  -- The entry at the index of each visible pixel is this pixel.
  abbrev pub HoldsPixels : Raster T → Type 0
  HoldsPixels p =
      (x y : ℕ) → x < p.geometry.width → y < p.geometry.height
      → slice_get p.buffer (place_of p.geometry x y) ≡ pixel_at (table_of p) x y

  -- Each row of the table is the part of the buffer that begins after the rows above it and the
  -- left padding.
  abbrev pub HoldsRows : Raster T → Type 0
  HoldsRows p =
      (y : ℕ) → y < p.geometry.height
      → slice_get (table_of p) y
      ≡ Some (take p.geometry.width
      (drop ((p.geometry.pad_top + y) * stride_of p.geometry + p.geometry.pad_left) p.buffer))

  -- The table of a plane is a rectangle of the rows of its whole buffer.
  abbrev pub ShowsRectangle : Raster T → Type 0
  ShowsRectangle p =
      table_of p ≡ rectangle p.geometry.pad_left p.geometry.pad_top p.geometry.width
      p.geometry.height (whole_rows p)

  -- The two planes hold equal entries at each index with this mark.
  abbrev pub AgreeAt : Mark → Raster T → Raster T → Type 0
  AgreeAt mark p q =
      (place : ℕ) → mark_at (cutting_plan p.geometry) place ≡ Some mark → slice_get p.buffer place
      ≡ slice_get q.buffer place

  -- Planes with equal entries at all visible indices have equal tables. Planes with equal entries
  -- at all border indices have equal borders.
  pub record IsMadeOfEntries (p q : Raster T) : Type 0 where
    pub table : AgreeAt Visible p q → table_of p ≡ table_of q
    pub border : AgreeAt Border p q → border_of p ≡ border_of q
