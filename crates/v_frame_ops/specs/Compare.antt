-- Comparisons of two rows or two tables of the same size, and sums over both.
use Rattle.std.specs.Prelude.{ℕ, ◌≡◌, ◌≢◌, ◌<◌, ◌≤◌, ◌*◌, ◌^◌, List, length, slice_get, sum_by, zip}
use Rattle.v_frame.specs.Prelude.{Table, height_of, pixel_at, row_major, width_of}

module _ {T : Type 0} where
  -- `row` and `other` have equal pixels at all indexes below `x`.
  abbrev pub SameBelow : List T → List T → ℕ → Type 0
  SameBelow row other x = (k : ℕ) → k < x → slice_get row k ≡ slice_get other k

  -- `x` is the first index at which `row` and `other` differ.
  pub record DifferFirstAt (row other : List T) (x : ℕ) : Type 0 where
    pub within : x < length row
    pub before : SameBelow row other x
    pub differs : slice_get row x ≢ slice_get other x

  -- The pixel at column `x` of row `y` is the first one that differs between two tables, from left
  -- to right within a row and from top to bottom.
  pub record IsFirstDifference (table other : Table T) (x y : ℕ) : Type 0 where
    pub above : (i j : ℕ) → j < y → pixel_at table i j ≡ pixel_at other i j
    pub before : (i : ℕ) → i < x → pixel_at table i y ≡ pixel_at other i y
    pub differs : pixel_at table x y ≢ pixel_at other x y

  -- `sum` adds up `between p q` over the pixels `p` and `q` of two tables at the same position. Its
  -- bound holds because no pair adds more than 2^32.
  pub record IsSumOver (between : T → T → ℕ) (table other : Table T) (sum : ℕ) : Type 0 where
    pub value : sum ≡ sum_by (λ p. between p.0 p.1) (zip (row_major table) (row_major other))
    pub bound : sum ≤ 2 ^ 32 * (height_of table * width_of table)
