-- The test of the digits, in a form that computes.
use Rattle.std.proofs.Common.{ℕ, ◌≡◌, ◌≤◌, ◌<◌, List, [], ◌∷◌, Bool, true, false, drop, length, take, ◌-◌, refl, sym, ap, subst, rules, arith}
use Rattle.std.proofs.Common.{length-drop, take_all}
use Rattle.std.specs.Prelude.{nat_eq, nat_le, nat_lt, slice_index, All, IsTrue, ◌&&◌, ◌↔◌}
use Rattle.std.specs.Cmp.Derive.{both_true}
use Rattle.std.specs.List.{list_all}
use Rattle.std.proofs.lemmas.Bool.{leb-true, le-leb, ltb-true, lt-ltb}
use Rattle.std.proofs.lemmas.List.Elements.{All-weaker}
use Rattle.std.proofs.lemmas.List.Sums.{AllPass-from_list_all, list_all-from_AllPass}
use Rattle.v_frame_y4m.specs.Faults.{AreDigits}
use Rattle.v_frame_y4m.specs.Lax.{is_digit, is_whole_rate}
use Rattle.v_frame_y4m.proofs.lax.is_whole_rate.Goals as goal

parts_true : (a b : Bool) → (a && b) ≡ true → (a ≡ true) × (b ≡ true)
parts_true true b is = (refl, is)
parts_true false b is = absurd (search (rules, is))

same_answer : (a b : Bool) → (a ≡ true → b ≡ true) → (b ≡ true → a ≡ true) → a ≡ b
same_answer true b to from = sym (to refl)
same_answer false true to from = from refl
same_answer false false to from = refl

abbrev IsDigit : ℕ → Type 0
IsDigit x = (48 ≤ x) × (x ≤ 57)

abbrev Passes : ℕ → Type 0
Passes x = is_digit x ≡ true

digit_passes : (x : ℕ) → IsDigit x → Passes x
digit_passes x is = both_true (le-leb 48 x is.0) (le-leb x 57 is.1)

passes_digit : (x : ℕ) → Passes x → IsDigit x
passes_digit x is =
    let both = parts_true (nat_le 48 x) (nat_le x 57) is in (leb-true 48 x both.0, leb-true x 57 both.1)

whole : (b : Bool) (piece : List ℕ) → slice_index piece 0 ≡ 70 → (IsTrue b ↔ AreDigits (drop 1 piece))
    → b ≡ is_whole_rate piece
whole b [] is told = absurd (omega (arith, is))
whole b (x ∷ xs) is told = same_answer b (is_whole_rate (x ∷ xs))
    (λ yes. let digits = told.0 yes in
    both_true (ap (λ (n : ℕ). nat_eq n 70) is) (both_true (lt-ltb 48 (slice_index xs 0) digits.0)
    (list_all-from_AllPass is_digit xs (All-weaker IsDigit Passes digit_passes xs digits.1))))
    (λ yes. let rest = parts_true (nat_eq x 70) (nat_lt 48 (slice_index xs 0) && list_all is_digit xs) yes in
    let both = parts_true (nat_lt 48 (slice_index xs 0)) (list_all is_digit xs) rest.1 in
    told.1 (
      ltb-true 48 (slice_index xs 0) both.0,
      All-weaker Passes IsDigit passes_digit xs (AllPass-from_list_all is_digit xs both.1),
    ))

pub returns-in-70 : goal.returns-in-70
returns-in-70 c =
    let piece = c.args.piece.now in
    let rest : take (length piece - 1) (drop 1 piece) ≡ drop 1 piece =
    take_all (length piece - 1) (drop 1 piece) (omega (arith, length-drop 1 piece)) in
    whole c.are_digits.result piece (search rules)
    (subst (λ (digits : List ℕ). IsTrue c.are_digits.result ↔ AreDigits digits) rest c.are_digits.ensures)
