-- Rows with a stride, with the results computed by hand. Each equation is proved by computation
-- (`refl`).
use Rattle.std.specs.Prelude.{ℕ, ◌≡◌, List, [], ◌∷◌, refl}
use Rattle.v_frame_raster.specs.Table.{Table, rectangle}
use Rattle.v_frame_raster.specs.StridedRows.{strided_rows}

-- Two rows of three entries, with a stride of four. The list ends with the last row.
abbrev seven : List ℕ
seven = 1 ∷ 2 ∷ 3 ∷ 20 ∷ 4 ∷ 5 ∷ 6 ∷ []

abbrev two_rows : Table ℕ
two_rows = (1 ∷ 2 ∷ 3 ∷ []) ∷ (4 ∷ 5 ∷ 6 ∷ []) ∷ []

ends_at_the_width : strided_rows 3 2 4 seven ≡ two_rows
ends_at_the_width = refl

-- Entries after the last row belong to no row.
longer : strided_rows 2 2 4 seven ≡ (1 ∷ 2 ∷ []) ∷ (4 ∷ 5 ∷ []) ∷ []
longer = refl

-- A rectangle of these rows is a list of rows with the same stride, which begins at its upper left
-- corner.
abbrev from_its_corner : List ℕ
from_its_corner = 2 ∷ 3 ∷ 20 ∷ 4 ∷ 5 ∷ 6 ∷ []

last_columns : strided_rows 2 2 4 from_its_corner ≡ rectangle 1 0 2 2 two_rows
last_columns = refl

-- Every second row, like one field of an interlaced picture, has twice the stride.
abbrev from_its_second : List ℕ
from_its_second = 2 ∷ 3 ∷ 4 ∷ 5 ∷ 6 ∷ []

lower_field : strided_rows 1 2 4 from_its_second ≡ (2 ∷ []) ∷ (6 ∷ []) ∷ []
lower_field = refl
