-- Sums over two lists of pixels of the same length, and over parts of two pictures.
use Rattle.std.specs.Prelude.{ℕ, ◌+◌, ◌*◌, ◌≤◌, List}
use Rattle.v_frame.specs.Prelude.{Table, rectangle, row_major}
use Rattle.v_frame_statistics.specs.Prelude.{sum_of_products, sum_of_squares, sum_of_values}
use Rattle.v_frame_measures.specs.declared.similarity.sums.PixelSums.{PixelSums}

-- The sums over two lists: the values of each list, the squared values of both lists, and the
-- products of two values at the same index.
abbrev pub sums_of : {T : Type 0} → (T → ℕ) → List T → List T → PixelSums
sums_of value xs ys =
    record {
      first = sum_of_values value xs;
      second = sum_of_values value ys;
      squares = sum_of_squares value xs + sum_of_squares value ys;
      products = sum_of_products value xs ys;
    }

-- The sums over a rectangle of `width` by `height` pixels of two pictures, from column `x` of row
-- `y` on.
abbrev pub sums_of_rectangle : {T : Type 0} → (T → ℕ) → ℕ → ℕ → ℕ → ℕ → Table T → Table T
    → PixelSums
sums_of_rectangle value x y width height a b =
    sums_of value (row_major (rectangle x y width height a))
    (row_major (rectangle x y width height b))

-- The sums over two parts together.
abbrev pub added : PixelSums → PixelSums → PixelSums
added one other =
    record {
      first = one.first + other.first;
      second = one.second + other.second;
      squares = one.squares + other.squares;
      products = one.products + other.products;
    }

-- Bounds for the sums over this number of pixels with values of at most 16 bits.
pub record AreSumsOver (pixels : ℕ) (sums : PixelSums) : Type 0 where
  pub first : sums.first ≤ 65536 * pixels
  pub second : sums.second ≤ 65536 * pixels
  pub squares : sums.squares ≤ 8589934592 * pixels
  pub products : sums.products ≤ 4294967296 * pixels
