-- Reading the text of a number in the form in which it is written.
use Rattle.std.proofs.Common.{ℕ, ◌≡◌, ◌≢◌, ◌<◌, ◌^◌, List, ◌∷◌, ◌++◌, length, get_or, decimal, sym, ◌∙◌, ap, refl}
use Rattle.std.proofs.Common.{subst, rules, arith, zero, suc, lit<}
use Rattle.std.specs.Prelude.{Option, Some, None, Result, Ok, Err, MatchOption, MatchResult}
use Rattle.std.specs.Int.{IsInRange}
use Rattle.std.specs.Str.{IsAscii}
use Rattle.std.specs.Str.Parse.{AllDigits, digits_value, ParsesUnsigned}
use Rattle.std.proofs.lemmas.Fmt.{parse-decimal, digits_decimal, first_decimal, decimal_digit, decimal-digits_value}
use Rattle.std.proofs.lemmas.Fmt.{IsAscii-decimal}
use Rattle.std.proofs.lemmas.Str.Parse.{IsNumeralModel, numerals_by_value, tells_digits, not_in_digits, parse_plain}
use Rattle.std.proofs.lemmas.Str.Pattern.{IsSplitOnceResult, split_after, split_parts}
use denote.Ref.{Bor}
use Rattle.std.proofs.lemmas.Str.Ascii.{IsAscii-cons}
use Rattle.std.proofs.lemmas.Str.{IsAscii-append}
use Rattle.v_frame_y4m.specs.Header.{ratio_text, FitsRatio}
use Rattle.v_frame_y4m.specs.declared.header.Ratio.{Ratio}

pub own : IsNumeralModel (AllDigits 10) (digits_value 10)
own = numerals_by_value (AllDigits 10) tells_digits

-- A number has no sign, and no leading zero except in 0.
pub written_so : (n : ℕ) (bs : List ℕ) → n < 2 ^ 64 → bs ≡ decimal n → (get_or bs 0 0 ≢ 43) ×
    (get_or bs 0 0 ≡ 48 → length bs ≡ 1)
written_so zero bs small is = rw (is ∙ decimal_digit 0 (lit< tt)) (λ e. omega (arith, e), λ _. refl)
written_so (suc n) bs small is =
    let first = first_decimal (suc n) (omega arith) small in
    rw is (λ e. omega (arith, e, first), λ e. absurd (omega (arith, e, first)))

err_is_not_ok : {E : Type 0} (e : E) (n : ℕ) → Err e ≡ Ok n → ⊥
err_is_not_ok e n is = search rules

module _ {E : Type 0} (bs : List ℕ) (plain : get_or bs 0 0 ≢ 43) (short : get_or bs 0 0 ≡ 48 → length bs ≡ 1) where
  pub parsed : (r : Result ℕ E) → ParsesUnsigned 64 10 bs r → MatchResult r (λ n. bs ≡ decimal n)
      (λ e. (n : ℕ) → n < 2 ^ 64 → bs ≢ decimal n)
  parsed (Ok n) parses =
      let is = parse_plain own {E = E} 64 bs (Ok n) parses plain in
      subst (λ (m : ℕ). bs ≡ decimal m) (sym is.1) (sym (decimal-digits_value own bs is.0.0 is.0.1 short is.0.2))
  parsed (Err e) parses = λ n small is. err_is_not_ok e n (parse-decimal {E = E} 64 n bs (Err e) small small is parses)

pub ratio_is_ascii : (r : Ratio) → FitsRatio r → IsAscii (ratio_text r)
ratio_is_ascii r fits = search (rules, IsAscii-append, IsAscii-decimal, IsAscii-cons)

colon_is_no_digit : ¬ (IsInRange 48 57 58)
colon_is_no_digit range = omega (arith, range.1)

-- A ratio is split at its colon into its two numbers.
pub ratio_is_cut : (r : Ratio) → FitsRatio r → (bs : List ℕ) → bs ≡ ratio_text r →
    (cut : Option (Bor (List ℕ) × Bor (List ℕ)))
    → IsSplitOnceResult 58 bs cut → MatchOption cut ⊥
    (λ x. (x.0.now ≡ decimal r.numerator) × (x.1.now ≡ decimal r.denominator))
ratio_is_cut r fits bs is cut splits =
    split_after 58 bs (decimal r.numerator) (decimal r.denominator) cut splits (lit< tt) is
    (λ i within. not_in_digits own (decimal r.numerator) 58
    (digits_decimal own r.numerator fits.0) colon_is_no_digit i within)

pub ratio_from_parts : (text : List ℕ) (n d : Bor (List ℕ)) → IsSplitOnceResult 58 text (Some (n, d)) →
    (out : Option Ratio)
    → MatchOption out ((r : Ratio) → FitsRatio r → n.now ≡ decimal r.numerator
    → d.now ≢ decimal r.denominator) (λ r. (n.now ≡ decimal r.numerator) × (d.now ≡ decimal r.denominator))
    → MatchOption out ((r : Ratio) → FitsRatio r → text ≢ ratio_text r) (λ r. text ≡ ratio_text r)
ratio_from_parts text n d splits None neither = λ r fits is.
    (let cut = ratio_is_cut r fits text is (Some (n, d)) splits in neither r fits cut.0 cut.1)
ratio_from_parts text n d splits (Some r) both =
    let parts = split_parts 58 text (Some (n, d)) splits (lit< tt) in
    parts.0 ∙ ap (λ (x : List ℕ). x ++ 58 ∷ d.now) both.0 ∙ ap (λ (x : List ℕ). decimal r.numerator ++ 58 ∷ x) both.1
