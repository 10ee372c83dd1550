-- Absolute differences between the pixels of two pictures, and the position of the largest one.
use Rattle.std.specs.Prelude.{ℕ, ◌≡◌, ◌<◌, ◌≤◌, List, Some, slice_get}
use Rattle.std.specs.Int.{abs_diff}
use Rattle.v_frame.specs.Prelude.{Table, pixel_at}
use Rattle.v_frame_measures.specs.declared.differences.GreatestDifference.{GreatestDifference}

module _ {T : Type 0} (value : T → ℕ) where
  -- The values of `row` and `other` at index `i` have this absolute difference.
  pub record DifferAt (row other : List T) (difference i : ℕ) : Type 0 where
    pub one : T
    pub two : T
    pub first : slice_get row i ≡ Some one
    pub second : slice_get other i ≡ Some two
    pub apart : difference ≡ abs_diff (value one) (value two)

  -- The values of `row` and `other` have this absolute difference at some index.
  abbrev pub DifferSomewhere : List T → List T → ℕ → Type 0
  DifferSomewhere row other difference = (i : ℕ) × DifferAt row other difference i

  -- At all indexes below `limit` the absolute difference is at most `difference`.
  abbrev pub DifferNoMore : List T → List T → ℕ → ℕ → Type 0
  DifferNoMore row other limit difference =
      (i d : ℕ) → i < limit → DifferAt row other d i → d ≤ difference

  -- `place` is the first index at which the values have this absolute difference.
  pub record DifferFirstBy (row other : List T) (difference place : ℕ) : Type 0 where
    pub there : DifferAt row other difference place
    pub first : (i : ℕ) → i < place → ¬ DifferAt row other difference i

  -- The values of `a` and `b` at column `x` of row `y` have this absolute difference.
  pub record PixelsDifferAt (a b : Table T) (difference x y : ℕ) : Type 0 where
    pub one : T
    pub two : T
    pub first : pixel_at a x y ≡ Some one
    pub second : pixel_at b x y ≡ Some two
    pub apart : difference ≡ abs_diff (value one) (value two)

  -- No absolute difference of `a` and `b` is larger than the one found, and its position is the
  -- first one that has it, from left to right within a row and from top to bottom.
  pub record IsGreatestDifference (a b : Table T) (found : GreatestDifference) : Type 0 where
    pub there : PixelsDifferAt a b found.difference found.x found.y
    pub bound : (x y d : ℕ) → PixelsDifferAt a b d x y → d ≤ found.difference
    pub above : (x y : ℕ) → y < found.y → ¬ PixelsDifferAt a b found.difference x y
    pub before : (x : ℕ) → x < found.x → ¬ PixelsDifferAt a b found.difference x found.y
