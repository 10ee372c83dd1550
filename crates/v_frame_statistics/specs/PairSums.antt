-- The sums over two lists of pixels of the same length.
use Rattle.std.specs.Prelude.{ℕ, ◌≡◌, ◌≤◌, List}
use Rattle.v_frame_statistics.specs.declared.rows.pairs.PairSums.{PairSums}
use Rattle.v_frame_statistics.specs.Sums.{sum_of_values, sum_of_squares, sum_of_products}

-- `sums` has the sums over the lists `xs` and `ys`.
pub record ArePairSums {T : Type 0} (value : T → ℕ) (xs ys : List T) (sums : PairSums)
    : Type 0 where
  pub first : sums.first ≡ sum_of_values value xs
  pub second : sums.second ≡ sum_of_values value ys
  pub first_squares : sums.first_squares ≡ sum_of_squares value xs
  pub second_squares : sums.second_squares ≡ sum_of_squares value ys
  pub products : sums.products ≡ sum_of_products value xs ys

-- None of the sums is above `most`.
pub record PairSumsAtMost (most : ℕ) (sums : PairSums) : Type 0 where
  pub first : sums.first ≤ most
  pub second : sums.second ≤ most
  pub first_squares : sums.first_squares ≤ most
  pub second_squares : sums.second_squares ≤ most
  pub products : sums.products ≤ most
