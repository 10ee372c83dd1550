-- The visible pixels of a plane or of a rectangle, lent as the entries of the buffer from the first
-- of these pixels on. The entries are rows with a stride.
use Rattle.std.specs.Prelude.{ℕ, ◌≡◌, ◌+◌, ◌<◌, ◌≤◌, ◌⊎◌, List, length}
use Rattle.v_frame_buffer.specs.Part.{with_part}
use Rattle.v_frame_raster.specs.Geometry.{origin_of, place_of}
use Rattle.v_frame_raster.specs.Table.{pixel_at}
use Rattle.v_frame_raster.specs.Raster.{Raster, raster, table_of, KeepsBorder}
use Rattle.v_frame_raster.specs.StridedRows.{strided_rows, KeepsRest}

module _ {T : Type 0} where
  -- The plane with the entries from its first visible pixel on replaced.
  unfoldable pub with_visible : Raster T → List T → Raster T
  with_visible plane entries =
      raster plane.geometry (with_part plane.buffer (origin_of plane.geometry) entries)

  -- If any list with the length of the old one is written there, the plane shows the rows of this
  -- list.
  abbrev pub ShowsEachList : Raster T → ℕ → ℕ → ℕ → List T → Type 0
  ShowsEachList plane width height stride old =
      (new : List T) → length new ≡ length old
      → table_of (with_visible plane new) ≡ strided_rows width height stride new

  -- If any list that differs from the old one only in these rows is written there, the border is
  -- unchanged.
  abbrev pub KeepsBorderOfEach : Raster T → ℕ → ℕ → ℕ → List T → Type 0
  KeepsBorderOfEach plane width height stride old =
      (new : List T) → KeepsRest width height stride old new
      → KeepsBorder plane (with_visible plane new)

  -- The plane with the entries from the pixel in column x of row y on replaced.
  unfoldable pub with_visible_from : Raster T → ℕ → ℕ → List T → Raster T
  with_visible_from plane x y entries =
      raster plane.geometry (with_part plane.buffer (place_of plane.geometry x y) entries)

  -- A rectangle shows the rows of a list with this stride. Pixels outside the rectangle and the
  -- border are unchanged.
  pub record WritesRectangle (old new : Raster T) (x y width height stride : ℕ) (entries : List T)
      : Type 0 where
    pub inside : (i j : ℕ) → i < width → j < height
        → pixel_at (table_of new) (x + i) (y + j)
        ≡ pixel_at (strided_rows width height stride entries) i j
    pub beside : (i j : ℕ) → ((i < x) ⊎ (x + width ≤ i)) ⊎ ((j < y) ⊎ (y + height ≤ j))
        → pixel_at (table_of new) i j ≡ pixel_at (table_of old) i j
    pub border : KeepsBorder old new

  -- If any list that differs from the old one only in these rows is written there, the rectangle
  -- shows the rows of this list.
  abbrev pub WritesEachRectangle : Raster T → ℕ → ℕ → ℕ → ℕ → ℕ → List T → Type 0
  WritesEachRectangle plane x y width height stride old =
      (new : List T) → KeepsRest width height stride old new
      → WritesRectangle plane (with_visible_from plane x y new) x y width height stride new
