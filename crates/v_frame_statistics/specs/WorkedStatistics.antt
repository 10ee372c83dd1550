-- Statistics of small tables with results computed by hand. Each line is proved by computation
-- (`refl`).
use Rattle.std.specs.Prelude.{ℕ, ◌≡◌, List, [], ◌∷◌, nat_eq, nat_lt, not, count_by, refl}
use Rattle.v_frame.specs.Prelude.{one_byte, two_bytes, row_major}
use Rattle.v_frame_statistics.specs.Count.{passing_pairs}
use Rattle.v_frame_statistics.specs.Histogram.{occurrences}
use Rattle.v_frame_statistics.specs.Sums.{sum_of_values, sum_of_squares, sum_of_products}

abbrev two_rows : List (List ℕ)
two_rows = (1 ∷ 7 ∷ 7 ∷ []) ∷ (7 ∷ 0 ∷ 255 ∷ []) ∷ []

abbrev two_others : List (List ℕ)
two_others = (1 ∷ 7 ∷ 8 ∷ []) ∷ (0 ∷ 7 ∷ 255 ∷ []) ∷ []

above_six : count_by (λ p. nat_lt 6 p) (row_major two_rows) ≡ 4
above_six = refl

-- Pixels are compared at the same position only.
that_differ : passing_pairs (λ p q. not (nat_eq p q)) (row_major two_rows) (row_major two_others)
    ≡ 3
unfolding passing_pairs
that_differ = refl

-- The order of the two pictures matters.
that_grow : passing_pairs nat_lt (row_major two_rows) (row_major two_others) ≡ 2
unfolding passing_pairs
that_grow = refl

sevens : occurrences 7 (row_major two_rows) ≡ 3
sevens = refl

none : occurrences 2 (row_major two_rows) ≡ 0
none = refl

their_sum : sum_of_values one_byte.value (row_major two_rows) ≡ 277
their_sum = refl

their_squares : sum_of_squares one_byte.value (row_major two_rows) ≡ 65173
their_squares = refl

their_products : sum_of_products one_byte.value (row_major two_rows) (row_major two_others) ≡ 65131
their_products = refl

largest_square : sum_of_squares two_bytes.value (65535 ∷ []) ≡ 4294836225
largest_square = refl
