-- Letters that may occur only once.
use Rattle.std.proofs.Common.{ℕ, ◌≡◌, ◌<◌, ◌+◌, ◌⊎◌, suc, List, drop, get_or, length, sym, subst, arith, lit<}
use Rattle.std.specs.Prelude.{All, Contains, slice_index}
use Rattle.std.proofs.Common.{drop-cons}
use Rattle.std.proofs.lemmas.List.Elements.{All-cons}
use denote.Ref.{Bor}
use mathlib.Core.Logic.{inl, inr}
use Rattle.v_frame_y4m.specs.Faults.{IsOnce}
use Rattle.v_frame_y4m.specs.Header.{letters, texts_of}

pub sizes_once : (letter : ℕ) → (letter ≡ 87) ⊎ (letter ≡ 72) → IsOnce letter
sizes_once letter (inl e) = ((0, lit< tt, sym e), λ f. omega (arith, e, f))
sizes_once letter (inr e) = ((1, lit< tt, sym e), λ f. omega (arith, e, f))

pub ratios_once : (letter : ℕ) → (letter ≡ 70) ⊎ (letter ≡ 65) → IsOnce letter
ratios_once letter (inl e) = ((2, lit< tt, sym e), λ f. omega (arith, e, f))
ratios_once letter (inr e) = ((4, lit< tt, sym e), λ f. omega (arith, e, f))

-- The first byte is a letter.
abbrev pub HasLetter : List ℕ → Type 0
HasLetter p = Contains letters (slice_index p 0)

-- A property of one parameter and of those after it.
pub holds_from : (P : List ℕ → Type 0) (ps : List (Bor (List ℕ))) (i : ℕ) (w : Bor (List ℕ)) → i < length ps → P
    (get_or ps i w).now
    → All P (texts_of (drop (i + 1) ps)) → All P (texts_of (drop i ps))
holds_from P ps i w within one rest =
    let next : i + 1 ≡ suc i = omega arith in
    let rest' = subst (λ (n : ℕ). All P (texts_of (drop n ps))) next rest in
    subst (λ (l : List (Bor (List ℕ))). All P (texts_of l)) (sym (drop-cons ps i w within))
    (All-cons P (get_or ps i w).now
    (texts_of (drop (suc i) ps)) one rest')
