-- Counts of the pairs of pixels that pass a test, and closures whose results are those of a test.
use Rattle.std.specs.Prelude.{ℕ, ◌≡◌, Bool, List, count_by, zip}

module _ {T : Type 0} where
  -- The number of indexes at which the items of two lists pass the test `t`.
  unfoldable pub passing_pairs : (T → T → Bool) → List T → List T → ℕ
  passing_pairs t xs ys = count_by (λ pair. t pair.0 pair.1) (zip xs ys)

  -- The closure returns the result of the test `t` for each item.
  abbrev pub SaysAs : (T → Bool → Type 0) → (T → Bool) → Type 0
  SaysAs post t = (p : T) (b : Bool) → post p b → b ≡ t p

  -- The closure returns the result of the test `t` for each pair of items.
  abbrev pub SaysAsOfPairs : (T → T → Bool → Type 0) → (T → T → Bool) → Type 0
  SaysAsOfPairs post t = (p q : T) (b : Bool) → post p q b → b ≡ t p q
