-- Weighted sums over a list from one index on, and the units that pixels cover.
use Rattle.std.proofs.Common.{ℕ, zero, suc, ◌≡◌, ◌+◌, ◌-◌, ◌*◌, ◌<◌, ◌≤◌, List, [], ◌∷◌, length, drop, get_or}
use Rattle.std.proofs.Common.{refl, arith, min, max}
use Rattle.std.proofs.Math.Nat.{mul-le-mul_right}
use Rattle.std.proofs.lemmas.List.{drop_more}
use Rattle.v_frame_resize.specs.Resize.{overlap, weighted_from}

module _ {X : Type 0} (weight : ℕ → ℕ) (count : X → ℕ) where
  -- Leading items of weight zero can be dropped.
  pub from_first : (n i : ℕ) (xs : List X) → ((k : ℕ) → k < i + n → weight k ≡ 0)
      → weighted_from i weight count xs ≡ weighted_from (i + n) weight count (drop n xs)
  from_first zero i xs nothing = let e : i + 0 ≡ i = omega arith in rw e refl
  from_first (suc n) i [] nothing = refl
  from_first (suc n) i (x ∷ xs) nothing =
      let none : weight i ≡ 0 = nothing i (omega arith) in
      let on : i + 1 + n ≡ i + suc n = omega arith in
      let rest = from_first n (i + 1) xs (λ k h. nothing k (omega arith)) in
      rw none (omega (arith, rw on at rest))

  -- Trailing items of weight zero can be dropped.
  pub up_to_last : (i : ℕ) (xs : List X) → ((k : ℕ) → i ≤ k → weight k ≡ 0) → weighted_from i weight count xs ≡ 0
  up_to_last i [] nothing = refl
  up_to_last i (x ∷ xs) nothing =
      let none : weight i ≡ 0 = nothing i (omega arith) in
      rw none (omega (arith, up_to_last (i + 1) xs (λ k h. nothing k (omega arith))))

  -- One item, and then the remaining items.
  pub one_more_weighed : (i : ℕ) (xs : List X) (d : X) → i < length xs
      → weighted_from i weight count (drop i xs)
      ≡ weight i * count (get_or xs i d) + weighted_from (i + 1) weight count (drop (i + 1) xs)
  one_more_weighed i xs d h = rw (drop_more xs i d h) refl

-- The number of units that a target pixel covers up to the end of source pixel `i`.
abbrev pub covered : ℕ → ℕ → ℕ → ℕ → ℕ
covered source target i x = min (max (i * target) (x * source)) ((x + 1) * source) - x * source

pub covered_more : (source target i x : ℕ)
    → covered source target (i + 1) x ≡ covered source target i x + overlap source target i x
covered_more source target i x = omega arith

pub covered_within : (source target i x : ℕ) → covered source target i x ≤ source
covered_within source target i x = omega arith

-- A source pixel before or after a span is not covered.
pub none_before : (source target first x : ℕ) → first * target ≤ x * source → (k : ℕ) → k < first
    → overlap source target k x ≡ 0
none_before source target first x before k h =
    let low : k + 1 ≤ first = omega arith in
    omega (arith, mul-le-mul_right target low, before)

pub none_behind : (source target stop x : ℕ) → (x + 1) * source ≤ stop * target → (k : ℕ) → stop ≤ k
    → overlap source target k x ≡ 0
none_behind source target stop x behind k h = omega (arith, mul-le-mul_right target h, behind)
