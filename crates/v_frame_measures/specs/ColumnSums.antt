-- Sums over columns of two pictures with values below 8192.
use Rattle.std.specs.Prelude.{ℕ, ◌≡◌, ◌+◌, ◌*◌, ◌≤◌, ◌<◌, List, All, drop, length, map, slice_index, take}
use Rattle.v_frame.specs.Prelude.{Table, row_major}
use Rattle.v_frame_measures.specs.declared.similarity.sums.PixelSums.{PixelSums}
use Rattle.v_frame_measures.specs.declared.similarity.columns.ColumnSums.{ColumnSums}
use Rattle.v_frame_measures.specs.PixelSums.{sums_of}

module _ {T : Type 0} (value : T → ℕ) where
  abbrev pub IsNarrow : List T → Type 0
  IsNarrow row = All (λ p. value p < 8192) row

  abbrev pub HasNarrowValues : Table T → Type 0
  HasNarrowValues rows = All IsNarrow rows

  abbrev pub IsUpTo : ℕ → List T → Type 0
  IsUpTo most row = All (λ p. value p ≤ most) row

  abbrev pub HasValuesUpTo : ℕ → Table T → Type 0
  HasValuesUpTo most rows = All (IsUpTo most) rows

  -- A part of a row with 32 pixels, whose values are below 8192.
  pub record IsNarrowPart (row : List T) : Type 0 where
    pub long : length row ≡ 32
    pub narrow : IsNarrow row

  -- The sums over column `x` of the rows of two pictures.
  abbrev pub sums_of_column : ℕ → Table T → Table T → PixelSums
  sums_of_column x a b =
      sums_of value (row_major (map (λ row. take 1 (drop x row)) a))
      (row_major (map (λ row. take 1 (drop x row)) b))

  -- The entries of `sums` are the sums over 32 columns, from column `x` on.
  pub record AreColumnSums (x : ℕ) (a b : Table T) (sums : ColumnSums) : Type 0 where
    pub first : (k : ℕ) → k < 32 → slice_index sums.first k ≡ (sums_of_column (x + k) a b).first
    pub second : (k : ℕ) → k < 32 → slice_index sums.second k ≡ (sums_of_column (x + k) a b).second
    pub squares : (k : ℕ) → k < 32
        → slice_index sums.squares k ≡ (sums_of_column (x + k) a b).squares
    pub products : (k : ℕ) → k < 32
        → slice_index sums.products k ≡ (sums_of_column (x + k) a b).products

-- All entries are so small that a sum of four fits 32 bits.
pub record AreSmall (sums : ColumnSums) : Type 0 where
  pub first : (k : ℕ) → k < 32 → slice_index sums.first k ≤ 65536
  pub second : (k : ℕ) → k < 32 → slice_index sums.second k ≤ 65536
  pub squares : (k : ℕ) → k < 32 → slice_index sums.squares k < 1073741824
  pub products : (k : ℕ) → k < 32 → slice_index sums.products k < 1073741824

-- The sum of four adjacent items of a list, from index `i` on.
abbrev pub four_of : List ℕ → ℕ → ℕ
four_of xs i =
    slice_index xs i + slice_index xs (i + 1) + slice_index xs (i + 2) + slice_index xs (i + 3)

-- The sums over a block of four columns, from column `4 * k` on.
abbrev pub block_of : ColumnSums → ℕ → PixelSums
block_of sums k =
    record {
      first = four_of sums.first (4 * k);
      second = four_of sums.second (4 * k);
      squares = four_of sums.squares (4 * k);
      products = four_of sums.products (4 * k);
    }
