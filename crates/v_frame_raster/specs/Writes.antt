-- The effect of writing a table, rows or a pixel into a plane. Everything else in the plane is
-- unchanged.
use Rattle.std.specs.Prelude.{ℕ, ◌≡◌, ◌≢◌, ◌+◌, List, ◌++◌, length, take, drop, Some, slice_get, slice_set}
use Rattle.v_frame_raster.specs.Geometry.{place_of}
use Rattle.v_frame_raster.specs.Raster.{Raster, raster, table_of, border_of, with_entries}
use Rattle.v_frame_raster.specs.Table.{with_pixel}

-- The list xs with two parts overwritten: `width` entries from `start` on with ys, and after them
-- `other` entries from `next` on with zs.
abbrev pub with_two_parts : {T : Type 0} → List T → ℕ → ℕ → ℕ → ℕ → List T → List T → List T
with_two_parts xs start width next other ys zs =
    take start xs
    ++ (ys ++ (drop (start + width) (take next xs) ++ (zs ++ drop (next + other) xs)))

module _ {T : Type 0} where
  -- The new plane shows these rows. Everything else is unchanged.
  pub record WritesTable (old new : Raster T) (rows : List (List T)) : Type 0 where
    pub geometry : new.geometry ≡ old.geometry
    pub border : border_of new ≡ border_of old
    pub table : table_of new ≡ rows

  -- Row y of the new table is this row. Everything else is unchanged.
  pub record WritesRow (old : Raster T) (y : ℕ) (new : Raster T) (row : List T) : Type 0 where
    pub geometry : new.geometry ≡ old.geometry
    pub border : border_of new ≡ border_of old
    pub table : table_of new ≡ slice_set (table_of old) y row
    pub written : slice_get (table_of new) y ≡ Some row
    pub others : (k : ℕ) → k ≢ y → slice_get (table_of new) k ≡ slice_get (table_of old) k

  -- The buffer with the visible pixels of row y and all entries after them replaced.
  abbrev pub entries_with_row : Raster T → ℕ → List T → List T → List T
  entries_with_row plane y row rest =
      take (place_of plane.geometry 0 y) plane.buffer ++ (row ++ rest)

  -- Any row with the length of the old one can be written as row y, with the entries `rest` after
  -- it.
  abbrev pub WritesEachFront : Raster T → ℕ → List T → List T → Type 0
  WritesEachFront plane y old rest =
      (row : List T) → length row ≡ length old
      → WritesRow plane y (with_entries plane (entries_with_row plane y row rest)) row

  -- The plane with the entry at the index of (x, y) replaced. The index may lie in the border.
  -- Everything else is unchanged.
  abbrev pub with_entry : Raster T → ℕ → ℕ → T → Raster T
  with_entry plane x y entry =
      raster plane.geometry (slice_set plane.buffer (place_of plane.geometry x y) entry)

  -- The pixel in column x of row y of the new table is this pixel. Everything else is unchanged.
  abbrev pub WritesPixel : Raster T → ℕ → ℕ → Raster T → T → Type 0
  WritesPixel old x y new pixel = WritesTable old new (with_pixel (table_of old) x y pixel)

  -- Any pixel can be written as the pixel in column x of row y of the table.
  abbrev pub WritesEachPixel : Raster T → ℕ → ℕ → Type 0
  WritesEachPixel plane x y = (pixel : T) → WritesPixel plane x y (with_entry plane x y pixel) pixel

  -- Rows y and z of the new table are these rows. Everything else is unchanged.
  pub record WritesRows (old : Raster T) (y z : ℕ) (new : Raster T) (row other : List T)
      : Type 0 where
    pub geometry : new.geometry ≡ old.geometry
    pub border : border_of new ≡ border_of old
    pub table : table_of new ≡ slice_set (slice_set (table_of old) y row) z other
    pub first : slice_get (table_of new) y ≡ Some row
    pub second : slice_get (table_of new) z ≡ Some other
    pub others : (k : ℕ) → k ≢ y → k ≢ z → slice_get (table_of new) k ≡ slice_get (table_of old) k

  -- The buffer with the visible pixels of rows y and z replaced. Row y lies above row z.
  abbrev pub entries_with_rows : Raster T → ℕ → ℕ → List T → List T → List T
  entries_with_rows plane y z row other =
      let width : ℕ = plane.geometry.width in
      with_two_parts plane.buffer (place_of plane.geometry 0 y) width (place_of plane.geometry 0 z)
      width row other

  -- Any two rows with the lengths of the old ones can be written as rows y and z of the table.
  abbrev pub WritesEachPair : Raster T → ℕ → ℕ → List T → List T → Type 0
  WritesEachPair plane y z old other_old =
      (row other : List T) → length row ≡ length old → length other ≡ length other_old
      → WritesRows plane y z (with_entries plane (entries_with_rows plane y z row other)) row other
