-- Lemmas on whether an argument requests help.
use Rattle.std.proofs.Common.{ℕ, ◌≡◌, ◌<◌, Bool, true, false, List, [], ◌∷◌, length, get_or, refl, ap, arith, rules, suc, zero}
use Rattle.std.specs.Prelude.{◌||◌}
use Rattle.std.specs.List.{list_any}
use denote.Ref.{Bor}
use Rattle.yuv_words.specs.Words.{texts_of}

or_right : (b c : Bool) → c ≡ true → (b || c) ≡ true
or_right true c is = refl
or_right false c is = is

or_none : (b c : Bool) → b ≡ false → c ≡ false → (b || c) ≡ false
or_none true c is none = absurd (search (rules, is))
or_none false c is none = none

-- If an argument passes a test, a test of the list finds one.
pub asked_here : (p : List ℕ → Bool) (words : List (Bor (List ℕ))) (i : ℕ) (d : Bor (List ℕ)) → i < length words
    → p (get_or words i d).now ≡ true → list_any p (texts_of words) ≡ true
asked_here p [] i d within is = absurd (omega (arith, within))
asked_here p (word ∷ words) zero d within is = ap (λ (b : Bool). b || list_any p (texts_of words)) is
asked_here p (word ∷ words) (suc i) d within is =
    or_right (p word.now) (list_any p (texts_of words)) (asked_here p words i d (grind (arith, within)) is)

-- If no argument passes a test, a test of the list finds none.
pub asked_nowhere : (p : List ℕ → Bool) (words : List (Bor (List ℕ)))
    → ((k : ℕ) → k < length words → p (get_or (texts_of words) k []) ≡ false) → list_any p (texts_of words) ≡ false
asked_nowhere p [] none = refl
asked_nowhere p (word ∷ words) none = or_none (p word.now) (list_any p (texts_of words)) (none 0 (grind arith))
    (asked_nowhere p words (λ k within. none (suc k) (grind (arith, within))))
