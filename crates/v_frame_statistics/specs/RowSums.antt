-- The sums of the values of pixels and of their squares.
use Rattle.std.specs.Prelude.{ℕ, ◌≡◌, ◌*◌, ◌≤◌, List}
use Rattle.v_frame_statistics.specs.declared.row_sums.ValueSums.{ValueSums}
use Rattle.v_frame_statistics.specs.Sums.{sum_of_values, sum_of_squares}

-- `sums` has the sums over the list `xs`.
pub record AreValueSums {T : Type 0} (value : T → ℕ) (xs : List T) (sums : ValueSums)
    : Type 0 where
  pub values : sums.values ≡ sum_of_values value xs
  pub squares : sums.squares ≡ sum_of_squares value xs

-- The sums are not above those of `count` pixels with 16-bit values.
pub record ValueSumsAtMost (count : ℕ) (sums : ValueSums) : Type 0 where
  pub values : sums.values ≤ 65536 * count
  pub squares : sums.squares ≤ 4294967296 * count
