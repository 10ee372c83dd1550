-- Texts that are appended part by part.
use Rattle.std.proofs.Common.{◌≡◌, ◌∙◌, ◌++◌, ◌∷◌, ◌+◌, ◌<◌, ℕ, [], List, Result, Ok, Err, ap, append_assoc, is_ok, if◌then◌else◌, length, take}
use Rattle.std.proofs.Math.ListN.{get_or}
use Rattle.std.proofs.lemmas.List.{map-append, take_more}
use Rattle.std.specs.Prelude.{OnOk, map}
use Rattle.yuv_reports.specs.Texts.{EndsWith}

-- The last part is appended if there is enough memory for it.
pub last_pushed : {A E : Type 0} (result : Result A E) (before new last : List ℕ)
    → new ≡ (if is_ok result then before ++ last else before) → OnOk result (new ≡ before ++ last)
last_pushed (Ok done) before new last pushed = pushed
last_pushed (Err error) before new last pushed = tt

pub four_parts : {A E : Type 0} (result : Result A E) (start a b c d one two three new : List ℕ)
    → one ≡ start ++ a → two ≡ one ++ b → three ≡ two ++ c
    → new ≡ (if is_ok result then three ++ d else three)
    → OnOk result (new ≡ start ++ (a ++ (b ++ (c ++ d))))
four_parts (Err error) start a b c d one two three new first second third last = tt
four_parts (Ok done) start a b c d one two three new first second third last =
    last ∙ ap (λ t. t ++ d) (third ∙ ap (λ t. t ++ c) (second ∙ ap (λ t. t ++ b) first))
    ∙ simp append_assoc

-- Five parts are appended, and the text ends with the last four.
pub ends_with_four : {A E : Type 0} (result : Result A E) (start a b c d e one two three new : List ℕ)
    → one ≡ start ++ (a ++ b) → two ≡ one ++ c → three ≡ two ++ d
    → new ≡ (if is_ok result then three ++ e else three)
    → OnOk result (EndsWith (a ++ (b ++ (c ++ (d ++ e)))) new)
ends_with_four (Err error) start a b c d e one two three new first second third last = tt
ends_with_four (Ok done) start a b c d e one two three new first second third last = (
  start,
  last ∙ ap (λ t. t ++ e) (third ∙ ap (λ t. t ++ d) (second ∙ ap (λ t. t ++ c) first))
      ∙ simp append_assoc,
)

pub two_parts : {A E : Type 0} (result : Result A E) (start a b one new : List ℕ) → one ≡ start ++ a
    → OnOk result (new ≡ one ++ b) → OnOk result (new ≡ start ++ (a ++ b))
two_parts (Err error) start a b one new first last = tt
two_parts (Ok done) start a b one new first last = last ∙ ap (λ t. t ++ b) first ∙ append_assoc start a b

pub three_parts : {A E : Type 0} (result : Result A E) (start a b c one two new : List ℕ) → one ≡ start ++ a
    → two ≡ one ++ b → new ≡ (if is_ok result then two ++ c else two)
    → OnOk result (new ≡ start ++ (a ++ (b ++ c)))
three_parts (Err error) start a b c one two new first second last = tt
three_parts (Ok done) start a b c one two new first second last =
    last ∙ ap (λ t. t ++ c) (second ∙ ap (λ t. t ++ b) first) ∙ simp append_assoc

pub three_said : {A E : Type 0} (result : Result A E) (start a b c one two new : List ℕ) → one ≡ start ++ a
    → two ≡ one ++ b → OnOk result (new ≡ two ++ c) → OnOk result (new ≡ start ++ (a ++ (b ++ c)))
three_said (Err error) start a b c one two new first second last = tt
three_said (Ok done) start a b c one two new first second last =
    last ∙ ap (λ t. t ++ c) (second ∙ ap (λ t. t ++ b) first) ∙ simp append_assoc

-- Three parts are appended, of which the middle one is unknown.
pub around : {A E : Type 0} (result : Result A E) (start front mid end one two new : List ℕ)
    → one ≡ start ++ front → two ≡ one ++ mid → OnOk result (new ≡ two ++ end)
    → OnOk result ((some : List ℕ) × (new ≡ start ++ (front ++ (some ++ end))))
around (Err error) start front mid end one two new first second last = tt
around (Ok done) start front mid end one two new first second last = (
  mid,
  last ∙ ap (λ t. t ++ end) (second ∙ ap (λ t. t ++ mid) first) ∙ simp append_assoc,
)

-- A text with a known end is appended to another one.
pub before_end : {A E : Type 0} (result : Result A E) (start front end one made rest new : List ℕ)
    → one ≡ start ++ front → EndsWith end made → rest ≡ made
    → new ≡ (if is_ok result then one ++ rest else one)
    → OnOk result ((some : List ℕ) × (new ≡ start ++ (front ++ (some ++ end))))
before_end (Err error) start front end one made rest new first ended same last = tt
before_end (Ok done) start front end one made rest new first (some, is) same last = (
  some,
  last ∙ ap (λ t. t ++ rest) first ∙ ap (λ t. (start ++ front) ++ t) (same ∙ is)
      ∙ append_assoc start front (some ++ end),
)

-- A map of one more item.
pub mapped_more : (f : ℕ → ℕ) (xs : List ℕ) (i d : ℕ) → i < length xs
    → map f (take (i + 1) xs) ≡ map f (take i xs) ++ f (get_or xs i d) ∷ []
mapped_more f xs i d within =
    ap (map f) (take_more xs i d within) ∙ map-append f (take i xs) (get_or xs i d ∷ [])
