-- Lists computed item by item from another list: rows of pixels, and tables of rows.
use Rattle.std.specs.Prelude.{ℕ, ◌≡◌, List, length, Some, slice_get}

-- For each item `p` of `source`, `target` has an item `q` at the same index for which `gives p q`
-- holds. Both lists have the same length.
pub record GivesItems {X Y : Type 0} (gives : X → Y → Type 0) (source : List X) (target : List Y)
    : Type 0 where
  pub count : length target ≡ length source
  pub at : (k : ℕ) (p : X) → slice_get source k ≡ Some p
      → (q : Y) × gives p q × (slice_get target k ≡ Some q)
