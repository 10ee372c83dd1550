-- Final values of rows with the results computed by hand. Each equation is proved by computation
-- (`refl`).
use Rattle.std.specs.Prelude.{ℕ, ◌≡◌, List, [], ◌∷◌, Some, None, refl}
use Rattle.std.specs.Borrow.{MutBor}
use Rattle.v_frame_raster.specs.Geometry.{geometry_of, stride_of, origin_of}
use Rattle.v_frame_plane.specs.Cursor.{rows_ahead}
use Rattle.v_frame_raster.specs.Raster.{Raster, raster, table_of, border_of}
use Rattle.v_frame_plane.specs.FinalRows.{with_rows_ahead}
use Rattle.v_frame_plane.specs.HeldItems.{at_front, at_back, final_items}

-- Three rows of two entries, with one entry before the first row and two entries between rows.
abbrev twelve : List ℕ
twelve = 20 ∷ 1 ∷ 2 ∷ 21 ∷ 22 ∷ 3 ∷ 4 ∷ 23 ∷ 24 ∷ 5 ∷ 6 ∷ 25 ∷ []

abbrev three_rows : List (List ℕ)
three_rows = (7 ∷ 8 ∷ []) ∷ (9 ∷ 10 ∷ []) ∷ (11 ∷ 12 ∷ []) ∷ []

each_in_its_place : with_rows_ahead 1 2 2 3 twelve three_rows
    ≡ 20 ∷ 7 ∷ 8 ∷ 21 ∷ 22 ∷ 9 ∷ 10 ∷ 23 ∷ 24 ∷ 11 ∷ 12 ∷ 25 ∷ []
each_in_its_place = refl

as_they_are : with_rows_ahead 1 2 2 3 twelve (rows_ahead 1 2 2 3 twelve) ≡ twelve
as_they_are = refl

-- If there are fewer new rows, the other entries are unchanged. New rows beyond the rows ahead are
-- ignored.
one_of_three : with_rows_ahead 1 2 2 3 twelve ((7 ∷ 8 ∷ []) ∷ [])
    ≡ 20 ∷ 7 ∷ 8 ∷ 21 ∷ 22 ∷ 3 ∷ 4 ∷ 23 ∷ 24 ∷ 5 ∷ 6 ∷ 25 ∷ []
one_of_three = refl

three_for_one : with_rows_ahead 1 2 2 1 twelve three_rows
    ≡ 20 ∷ 7 ∷ 8 ∷ 21 ∷ 22 ∷ 3 ∷ 4 ∷ 23 ∷ 24 ∷ 5 ∷ 6 ∷ 25 ∷ []
three_for_one = refl

-- A plane of 3 by 2 pixels, with 1 column of border to the left, 2 columns to the right, and 1 row
-- above.
abbrev in_a_border : List ℕ → Raster ℕ
in_a_border buffer = raster (geometry_of 3 2 1 2 1 0 1 1) buffer

abbrev eighteen : List ℕ
eighteen =
    20 ∷ 21 ∷ 22 ∷ 23 ∷ 24 ∷ 25 ∷
    26 ∷ 1 ∷ 2 ∷ 3 ∷ 27 ∷ 28 ∷
    29 ∷ 4 ∷ 5 ∷ 6 ∷ 30 ∷ 31 ∷ []

abbrev two_rows : List (List ℕ)
two_rows = (7 ∷ 8 ∷ 9 ∷ []) ∷ (10 ∷ 11 ∷ 12 ∷ []) ∷ []

abbrev rewritten : Raster ℕ
rewritten = in_a_border (with_rows_ahead 7 3 3 2 eighteen two_rows)

its_origin : origin_of rewritten.geometry ≡ 7
its_origin = refl

its_stride : stride_of rewritten.geometry ≡ 6
its_stride = refl

its_table : table_of rewritten ≡ two_rows
its_table = refl

its_border : border_of rewritten ≡ border_of (in_a_border eighteen)
its_border = refl

-- one item is drawn from the front and one from the back, the iterator finds two others, and a call
-- after the last item gives none
held_at_both_ends : (first last : MutBor ℕ) (walk : Raster ℕ)
    → final_items
    (record { end = at_front; item = Some first; after = walk; final = 1 }
    ∷ record { end = at_back; item = Some last; after = walk; final = 4 }
    ∷ record { end = at_front; item = None; after = walk; final = 9 } ∷ [])
    (2 ∷ 3 ∷ [])
    ≡ 1 ∷ 2 ∷ 3 ∷ 4 ∷ []
held_at_both_ends first last walk = refl
