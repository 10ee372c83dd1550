-- Lists whose items were mapped, or combined with the items of another list. The lists are rows of
-- pixels or tables of rows. It also defines tables that hold a rectangle of another table.
use Rattle.std.specs.Prelude.{ℕ, ◌≡◌, ◌+◌, ◌<◌, List, length, Some, slice_get}
use Rattle.v_frame.specs.Prelude.{Table, pixel_at}

-- Each item `p` of `old` became an item `q` of `new` at the same index, for which `gives p q`
-- holds.
pub record MapsItems {X : Type 0} (gives : X → X → Type 0) (old new : List X) : Type 0 where
  pub count : length new ≡ length old
  pub at : (k : ℕ) (p : X) → slice_get old k ≡ Some p
      → (q : X) × gives p q × (slice_get new k ≡ Some q)

-- Each item `p` of `old` and the item `q` of `other` at the same index became an item `r` of `new`
-- at that index, for which `gives p q r` holds.
pub record CombinesItems {X : Type 0} (gives : X → X → X → Type 0) (old other new : List X)
    : Type 0 where
  pub count : length new ≡ length old
  pub as_many : length other ≡ length old
  pub at : (k : ℕ) (p q : X) → slice_get old k ≡ Some p → slice_get other k ≡ Some q
      → (r : X) × gives p q r × (slice_get new k ≡ Some r)

-- `part`, a table of `width` by `height` pixels, holds the rectangle of `rows` that begins at
-- column `x` of row `y`.
abbrev pub HoldsPixelsFrom : {T : Type 0} → Table T → ℕ → ℕ → ℕ → ℕ → Table T → Type 0
HoldsPixelsFrom rows x y width height part =
    (i j : ℕ) → i < width → j < height → pixel_at part i j ≡ pixel_at rows (x + i) (y + j)
