-- Means of neighbors with the results computed by hand. Each equation is proved by computation
-- (`refl`).
use Rattle.std.specs.Prelude.{ℕ, ◌≡◌, [], ◌∷◌, refl}
use Rattle.v_frame.specs.Prelude.{Table}
use Rattle.example_callers.specs.Filters.{box_mean}

abbrev three_rows : Table ℕ
three_rows = (0 ∷ 9 ∷ 18 ∷ []) ∷ (27 ∷ 36 ∷ 45 ∷ []) ∷ (54 ∷ 63 ∷ 72 ∷ []) ∷ []

-- In the middle, all nine pixels count. In a corner, the pixel itself counts four times, and each
-- of its two neighbors in its row and column counts twice.
in_the_middle : box_mean three_rows 1 1 ≡ 36
in_the_middle = refl

in_the_corner : box_mean three_rows 0 0 ≡ 12
in_the_corner = refl

at_the_edge : box_mean three_rows 2 1 ≡ 42
at_the_edge = refl
