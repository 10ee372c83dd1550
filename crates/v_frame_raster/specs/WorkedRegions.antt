-- Rectangles, regions and whole buffers with the results computed by hand. Each equation is proved
-- by computation (`refl`).
use Rattle.std.specs.Prelude.{ℕ, pos, negsuc, ◌≡◌, List, [], ◌∷◌, refl}
use Rattle.v_frame_raster.specs.Geometry.{Geometry, geometry_of, region_geometry, whole_geometry}
use Rattle.v_frame_raster.specs.Geometry.{buffer_region}
use Rattle.v_frame_raster.specs.Table.{Table, rectangle}
use Rattle.v_frame_raster.specs.Raster.{raster, table_of, border_of, whole_rows}

abbrev three_rows : Table ℕ
three_rows = (1 ∷ 2 ∷ 3 ∷ []) ∷ (4 ∷ 5 ∷ 6 ∷ []) ∷ (7 ∷ 8 ∷ 9 ∷ []) ∷ []

two_by_two : rectangle 1 0 2 2 three_rows ≡ (2 ∷ 3 ∷ []) ∷ (5 ∷ 6 ∷ []) ∷ []
two_by_two = refl

last_column : rectangle 2 0 1 3 three_rows ≡ (3 ∷ []) ∷ (6 ∷ []) ∷ (9 ∷ []) ∷ []
last_column = refl

-- A rectangle that extends past the table is cut off at its edges.
past_the_corner : rectangle 1 2 5 5 three_rows ≡ (8 ∷ 9 ∷ []) ∷ []
past_the_corner = refl

-- A plane of 3 by 2 pixels, with 1 column of border to the left, 2 columns to the right, and 1 row
-- above.
abbrev in_a_border : Geometry
in_a_border = geometry_of 3 2 1 2 1 0 2 2

abbrev eighteen : List ℕ
eighteen =
    20 ∷ 21 ∷ 22 ∷ 23 ∷ 24 ∷ 25 ∷
    26 ∷ 1 ∷ 2 ∷ 3 ∷ 27 ∷ 28 ∷
    29 ∷ 4 ∷ 5 ∷ 6 ∷ 30 ∷ 31 ∷ []

-- The last two columns of its upper row.
abbrev upper_right : Geometry
upper_right = region_geometry in_a_border 1 0 2 1

its_numbers : upper_right ≡ geometry_of 2 1 2 2 1 1 2 2
its_numbers = refl

its_table : table_of (raster upper_right eighteen) ≡ (2 ∷ 3 ∷ []) ∷ []
its_table = refl

its_border : border_of (raster upper_right eighteen)
    ≡ (20 ∷ 21 ∷ 22 ∷ 23 ∷ 24 ∷ 25 ∷ [])
    ∷ (26 ∷ 1 ∷ []) ∷ (27 ∷ 28 ∷ []) ∷ (29 ∷ 4 ∷ 5 ∷ 6 ∷ 30 ∷ 31 ∷ []) ∷ []
its_border = refl

whole_numbers : whole_geometry in_a_border ≡ geometry_of 6 3 0 0 0 0 2 2
whole_numbers = refl

whole_table : whole_rows (raster in_a_border eighteen)
    ≡ (20 ∷ 21 ∷ 22 ∷ 23 ∷ 24 ∷ 25 ∷ [])
    ∷ (26 ∷ 1 ∷ 2 ∷ 3 ∷ 27 ∷ 28 ∷ []) ∷ (29 ∷ 4 ∷ 5 ∷ 6 ∷ 30 ∷ 31 ∷ []) ∷ []
whole_table = refl

shown_in_the_whole : rectangle 1 1 3 2 (whole_rows (raster in_a_border eighteen))
    ≡ table_of (raster in_a_border eighteen)
shown_in_the_whole = refl

-- A rectangle that begins one column to the left of the first visible pixel, and one row above it.
-- Only two of its pixels were visible.
upper_left : table_of (raster (buffer_region in_a_border (negsuc 0) (negsuc 0) 3 2) eighteen)
    ≡ (20 ∷ 21 ∷ 22 ∷ []) ∷ (26 ∷ 1 ∷ 2 ∷ []) ∷ []
upper_left = refl

-- A rectangle that begins at the last visible pixel of the last row. Its other two pixels were
-- border.
lower_right : table_of (raster (buffer_region in_a_border (pos 2) (pos 1) 3 1) eighteen)
    ≡ (6 ∷ 30 ∷ 31 ∷ []) ∷ []
lower_right = refl
