-- Tables of rows: their sizes, their pixels, their row-major list, a list cut into rows, and writes
-- into a table.
use Rattle.std.specs.Prelude.{ℕ, zero, suc, List, [], ◌∷◌, ◌++◌, length, map, take, drop, Option, Some, None, slice_get}
use Rattle.std.specs.Prelude.{slice_set, unwrap_or, option_and_then}

-- The list with item `number` changed, if there is such an item.
abbrev pub with_item_by : {X : Type 0} → (X → X) → List X → ℕ → Option X → List X
with_item_by change items number None = items
with_item_by change items number (Some item) = slice_set items number (change item)

-- The rows of a plane, from top to bottom. Each row is a list of pixels from left to right.
abbrev pub Table : Type 0 → Type 0
Table T = List (List T)

module _ {T : Type 0} where
  -- The number of columns of a table, which is the length of its first row.
  abbrev pub width_of : Table T → ℕ
  width_of [] = 0
  width_of (row ∷ rows) = length row

  -- The number of rows of a table.
  abbrev pub height_of : Table T → ℕ
  height_of rows = length rows

  -- The pixel in column x of row y, if it is inside the table.
  abbrev pub pixel_at : Table T → ℕ → ℕ → Option T
  pixel_at rows x y = option_and_then (λ row. slice_get row x) (slice_get rows y)

  -- The pixels of all rows in one list, row by row.
  abbrev pub row_major : Table T → List T
  row_major [] = []
  row_major (row ∷ rows) = row ++ row_major rows

  -- The rectangle of width by height pixels that begins at column x of row y.
  abbrev pub rectangle : ℕ → ℕ → ℕ → ℕ → Table T → Table T
  rectangle x y width height rows =
      map (λ row. take width (drop x row)) (take height (drop y rows))

  -- The row after a write. Each entry is the written value, or the old entry if nothing is written
  -- there.
  abbrev pub overwritten_row : List T → List (Option T) → List T
  overwritten_row [] writes = []
  overwritten_row (pixel ∷ row) [] = pixel ∷ row
  overwritten_row (pixel ∷ row) (write ∷ writes) =
      unwrap_or write pixel ∷ overwritten_row row writes

  -- The table with row y overwritten.
  abbrev pub with_writes : Table T → ℕ → List (Option T) → Table T
  with_writes rows y writes =
      with_item_by (λ row. overwritten_row row writes) rows y (slice_get rows y)

  -- The table with the pixel in column x of row y replaced.
  abbrev pub with_pixel : Table T → ℕ → ℕ → T → Table T
  with_pixel rows x y pixel = with_item_by (λ row. slice_set row x pixel) rows y (slice_get rows y)

module _ {T : Type 0} where
  -- A list cut into `height` rows of `width` entries.
  abbrev pub cut_rows : ℕ → ℕ → List T → Table T
  cut_rows width zero source = []
  cut_rows width (suc height) source = take width source ∷ cut_rows width height (drop width source)
