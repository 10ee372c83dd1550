-- The minimum and the maximum of a list of pixels.
use Rattle.std.specs.Prelude.{ℕ, ◌≤◌, List, All, Contains}

module _ {T : Type 0} where
  -- `first` is a pixel of the list, and it comes before each pixel of the list in the given order.
  pub record IsFirst (comes : T → T → Type 0) (xs : List T) (first : T) : Type 0 where
    pub bound : All (λ p. comes first p) xs
    pub occurs : Contains xs first

  -- `least` is a pixel of the list, and no pixel has a smaller value.
  abbrev pub IsLeast : (T → ℕ) → List T → T → Type 0
  IsLeast value xs least = IsFirst (λ p q. value p ≤ value q) xs least

  -- `greatest` is a pixel of the list, and no pixel has a larger value.
  abbrev pub IsGreatest : (T → ℕ) → List T → T → Type 0
  IsGreatest value xs greatest = IsFirst (λ p q. value q ≤ value p) xs greatest
