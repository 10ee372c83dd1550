-- The eight numbers that define the layout of a plane in its buffer, the sizes that follow from
-- them, and the index of each pixel.
use Rattle.std.specs.Prelude.{ℕ, zero, suc, ◌+◌, ◌-◌, ◌*◌, ◌^◌, ◌<◌, ◌≤◌, nat_lt, if◌then◌else◌, List, [], ◌∷◌, ◌++◌}
use Rattle.std.specs.Prelude.{Option, Some, None, ℤ, pos, ◌+ℤ◌, ◌≤ℤ◌, unsigned_abs}

-- A visible rectangle of width by height pixels, the padding on each side, and the number of luma
-- samples for each sample of the plane.
pub record Geometry : Type 0 where
  pub width : ℕ
  pub height : ℕ
  pub pad_left : ℕ
  pub pad_right : ℕ
  pub pad_top : ℕ
  pub pad_bottom : ℕ
  pub subsampling_x : ℕ
  pub subsampling_y : ℕ

-- The largest `usize`.
abbrev pub usize_max : ℕ
usize_max = 2 ^ 64 - 1

-- The largest `isize`.
abbrev pub isize_max : ℕ
isize_max = 2 ^ 63 - 1

-- The number of entries in one row of the buffer.
abbrev pub stride_of : Geometry → ℕ
stride_of g = g.width + g.pad_left + g.pad_right

-- The number of rows of the buffer.
abbrev pub alloc_height_of : Geometry → ℕ
alloc_height_of g = g.height + g.pad_top + g.pad_bottom

-- The number of entries in the buffer.
abbrev pub alloc_size_of : Geometry → ℕ
alloc_size_of g = alloc_height_of g * stride_of g

-- Eight numbers are a geometry if the visible rectangle is not empty, no ratio is zero, and the
-- stride fits into a `usize`.
pub record IsGeometry (g : Geometry) : Type 0 where
  pub wide : 0 < g.width
  pub high : 0 < g.height
  pub sampled_x : 0 < g.subsampling_x
  pub sampled_y : 0 < g.subsampling_y
  pub stride_fits : stride_of g ≤ usize_max

-- The buffer fits if its size in bytes is at most the largest `isize`, even with two bytes for each
-- entry.
abbrev pub Fits : Geometry → Type 0
Fits g = 2 * alloc_size_of g ≤ isize_max

-- The geometry with these numbers, in the order of the parameters of `PlaneGeometry::new`.
abbrev pub geometry_of : ℕ → ℕ → ℕ → ℕ → ℕ → ℕ → ℕ → ℕ → Geometry
geometry_of width height left right top bottom x y =
    record {
      width = width;
      height = height;
      pad_left = left;
      pad_right = right;
      pad_top = top;
      pad_bottom = bottom;
      subsampling_x = x;
      subsampling_y = y;
    }

-- A rectangle that begins at column x of row y is not empty and lies inside the visible rectangle.
pub record IsInside (g : Geometry) (x y width height : ℕ) : Type 0 where
  pub wide : 0 < width
  pub high : 0 < height
  pub across : x + width ≤ g.width
  pub down : y + height ≤ g.height

-- The geometry that shows only this rectangle of the same buffer. Everything around it is border.
abbrev pub region_geometry : Geometry → ℕ → ℕ → ℕ → ℕ → Geometry
region_geometry g x y width height =
    geometry_of width height (g.pad_left + x) (g.width - (x + width) + g.pad_right) (g.pad_top + y)
    (g.height - (y + height) + g.pad_bottom) g.subsampling_x g.subsampling_y

-- The geometry that shows the whole of the same buffer. There is no border.
abbrev pub whole_geometry : Geometry → Geometry
whole_geometry g =
    geometry_of (stride_of g) (alloc_height_of g) 0 0 0 0 g.subsampling_x g.subsampling_y

-- The column of the buffer that lies x columns to the right of the first visible column. If x is
-- negative, it lies to the left.
abbrev pub buffer_column : Geometry → ℤ → ℤ
buffer_column g x = pos g.pad_left +ℤ x

-- The row of the buffer that lies y rows below the first visible row. If y is negative, it lies
-- above.
abbrev pub buffer_row : Geometry → ℤ → ℤ
buffer_row g y = pos g.pad_top +ℤ y

-- A rectangle that begins at column x of row y, which may be negative, is not empty and lies inside
-- the buffer.
pub record IsInBuffer (g : Geometry) (x y : ℤ) (width height : ℕ) : Type 0 where
  pub left : pos 0 ≤ℤ buffer_column g x
  pub above : pos 0 ≤ℤ buffer_row g y
  pub inside : IsInside (whole_geometry g) (unsigned_abs (buffer_column g x))
      (unsigned_abs (buffer_row g y)) width height

-- The geometry that shows only this rectangle of the buffer, even if parts of it were border.
abbrev pub buffer_region : Geometry → ℤ → ℤ → ℕ → ℕ → Geometry
buffer_region g x y width height =
    region_geometry (whole_geometry g) (unsigned_abs (buffer_column g x))
    (unsigned_abs (buffer_row g y)) width height

-- An entry of the buffer belongs to the border, or is a visible pixel.
pub data Mark : Type 0 where
  Border : Mark
  Visible : Mark

-- The number of entries of a piece of the buffer, and whether the piece is visible.
pub record Piece : Type 0 where
  pub mark : Mark
  pub entries : ℕ

-- A piece of n border entries.
abbrev pub border_piece : ℕ → Piece
border_piece n = record { mark = Border; entries = n }

-- A piece of n visible pixels.
abbrev pub visible_piece : ℕ → Piece
visible_piece n = record { mark = Visible; entries = n }

-- The pieces repeated n times, end to end.
abbrev pub times : ℕ → List Piece → List Piece
times zero pieces = []
times (suc n) pieces = pieces ++ times n pieces

-- A row of the buffer above or below the visible rectangle.
abbrev pub outer_row : Geometry → List Piece
outer_row g = border_piece (stride_of g) ∷ []

-- A row of the buffer that crosses the visible rectangle.
abbrev pub crossing_row : Geometry → List Piece
crossing_row g = border_piece g.pad_left ∷ visible_piece g.width ∷ border_piece g.pad_right ∷ []

-- The pieces of a buffer, from front to end.
abbrev pub cutting_plan : Geometry → List Piece
cutting_plan g =
    times g.pad_top (outer_row g)
    ++ (times g.height (crossing_row g) ++ times g.pad_bottom (outer_row g))

-- The number of entries before the first visible piece, if a piece with n entries and this mark is
-- followed by a plan that has `rest` entries before its first visible piece.
abbrev pub before_visible : Mark → ℕ → ℕ → ℕ
before_visible Border n rest = n + rest
before_visible Visible n rest = 0

-- The number of entries before the first visible piece of a plan.
abbrev pub entries_in_front : List Piece → ℕ
entries_in_front [] = 0
entries_in_front (piece ∷ plan) = before_visible piece.mark piece.entries (entries_in_front plan)

-- The index of the pixel (0, 0) in the buffer.
abbrev pub origin_of : Geometry → ℕ
origin_of g = entries_in_front (cutting_plan g)

-- The index of column x and row y in the buffer, for any two numbers.
abbrev pub place_of : Geometry → ℕ → ℕ → ℕ
place_of g x y = origin_of g + (x + y * stride_of g)

-- The mark of the piece that contains this index of the buffer.
abbrev pub mark_at : List Piece → ℕ → Option Mark
mark_at [] place = None
mark_at (piece ∷ plan) place =
    if nat_lt place piece.entries then Some piece.mark else mark_at plan (place - piece.entries)
