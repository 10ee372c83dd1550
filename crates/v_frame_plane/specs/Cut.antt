-- The final entries of a slice that was split into one entry and the rest, or of which two parts
-- were lent.
use Rattle.std.specs.Prelude.{ℕ, List, [], ◌∷◌, ◌++◌}
use Rattle.std.specs.Borrow.{LendsBoth, Fml, RattleType, MutBor, Array}
use Rattle.v_frame_raster.specs.Writes.{with_two_parts}

module _ (T : RattleType) (slice : MutBor (List T.Denot)) (cut : MutBor T.Denot
    × MutBor (List T.Denot)) where
  -- When the borrows end, the slice is the final entry followed by the final rest.
  abbrev pub LendsFirst : Fml
  LendsFirst = LendsBoth (Array T 0) T (Array T 0) slice cut ◌∷◌

  -- When the borrows end, the slice is the final rest followed by the final entry.
  abbrev pub LendsLast : Fml
  LendsLast = LendsBoth (Array T 0) T (Array T 0) slice cut (λ entry rest. rest ++ entry ∷ [])

-- When the borrows of two parts end, the slice has their final entries at the indices `start` and
-- `next`.
abbrev pub LendsTwoParts : (T : RattleType) → MutBor (List T.Denot) → ℕ → ℕ → ℕ → ℕ
    → MutBor (List T.Denot) × MutBor (List T.Denot) → Fml
LendsTwoParts T slice start width next other parts =
    LendsBoth (Array T 0) (Array T 0) (Array T 0) slice parts
    (with_two_parts slice.now start width next other)
