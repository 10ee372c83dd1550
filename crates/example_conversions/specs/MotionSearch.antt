-- The result of a motion search: the first position with the smallest sum of absolute differences,
-- from left to right within a row and from top to bottom.
use Rattle.std.specs.Prelude.{ℕ, ◌≡◌, ◌+◌, ◌<◌, ◌≤◌}
use Rattle.v_frame.specs.Prelude.{Table, absolute_differences, height_of, rectangle, row_major}
use Rattle.v_frame.specs.Prelude.{width_of}
use Rattle.example_conversions.specs.declared.motion_search.SearchArea.{SearchArea}
use Rattle.example_conversions.specs.declared.motion_search.BlockMatch.{BlockMatch}

-- The sum of absolute differences between a block and the pixels of a picture from column `x` of row
-- `y` on.
unfoldable pub cost_at : {T : Type 0} → (T → ℕ) → Table T → Table T → ℕ → ℕ → ℕ
cost_at value picture block x y =
    absolute_differences value
    (row_major (rectangle x y (width_of block) (height_of block) picture)) (row_major block)

-- A position lies inside the search area.
pub record IsPosition (area : SearchArea) (x y : ℕ) : Type 0 where
  pub left : area.x ≤ x
  pub right : x < area.x + area.columns
  pub top : area.y ≤ y
  pub bottom : y < area.y + area.rows

-- A match lies inside the area and has its own cost, and no position has a smaller cost. Each
-- position above it, or before it in its row, has a larger cost.
pub record IsFirstLeast (cost_of : ℕ → ℕ → ℕ) (area : SearchArea) (found : BlockMatch)
    : Type 0 where
  pub position : IsPosition area found.x found.y
  pub cost : found.cost ≡ cost_of found.x found.y
  pub least : (x y : ℕ) → IsPosition area x y → found.cost ≤ cost_of x y
  pub above : (x y : ℕ) → IsPosition area x y → y < found.y → found.cost < cost_of x y
  pub before : (x : ℕ) → IsPosition area x found.y → x < found.x → found.cost < cost_of x found.y
