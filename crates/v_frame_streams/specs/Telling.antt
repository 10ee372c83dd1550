-- The progress that a call reports.
use Rattle.std.specs.Prelude.{ℕ, zero, suc, ◌≡◌}

-- The numbers 1, 2 and so on were reported, up to this number.
abbrev pub TellsUpTo : {A : Type 0} → (A → A → ℕ → Type 0) → ℕ → A → A → Type 0
TellsUpTo shows zero old new = new ≡ old
TellsUpTo {A} shows (suc n) old new =
    (mid : A) × TellsUpTo shows n old mid × shows mid new (suc n)
