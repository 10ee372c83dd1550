-- Sums of the values of pixels, of their squares, and of the products of two values.
use Rattle.std.specs.Prelude.{ℕ, ◌*◌, List, sum_by, zip}

module _ {T : Type 0} (value : T → ℕ) where
  abbrev pub sum_of_values : List T → ℕ
  sum_of_values xs = sum_by value xs

  abbrev pub sum_of_squares : List T → ℕ
  sum_of_squares xs = sum_by (λ p. value p * value p) xs

  -- The sum of the products of the values at the same index of two lists.
  abbrev pub sum_of_products : List T → List T → ℕ
  sum_of_products xs ys = sum_by (λ pair. value pair.0 * value pair.1) (zip xs ys)
