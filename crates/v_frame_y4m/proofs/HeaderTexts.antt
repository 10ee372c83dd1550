-- A line states one header.
use Rattle.std.proofs.Common.{ℕ, ◌≡◌, ◌<◌, ◌^◌, List, [], ◌∷◌, false, cond, drop, get_or, length, map, decimal, refl}
use Rattle.std.proofs.Common.{sym, ◌∙◌, ap, rules, arith}
use Rattle.std.specs.Prelude.{Option, Some, None, All, IfSome, nat_eq}
use Rattle.std.specs.List.{slice_split}
use Rattle.std.specs.Int.{IsInRange}
use Rattle.std.proofs.lemmas.List.Elements.{All-from_get_or}
use Rattle.std.proofs.lemmas.Bool.{ne_eqb}
use Rattle.std.proofs.lemmas.Fmt.{decimal_injective, digits_decimal}
use Rattle.std.proofs.lemmas.Str.Parse.{not_in_digits}
use Rattle.std.proofs.lemmas.List.Splits.{slice_split_at, slice_split_none}
use Rattle.v_frame_y4m.specs.Header.{parameter_of, ratio_text, interlacing_text, FitsRatio, HasSize, Says}
use Rattle.v_frame_y4m.specs.declared.color.Color.{Color}
use Rattle.v_frame_y4m.specs.declared.header.Ratio.{Ratio}
use Rattle.v_frame_y4m.specs.declared.header.Interlacing.{Interlacing}
use Rattle.v_frame_y4m.specs.declared.header.Interlacing.TheVariants.{Progressive, TopFirst, BottomFirst, Mixed}
use Rattle.v_frame_y4m.specs.declared.header.Interlacing.TheVariants.{Unknown}
use Rattle.v_frame_y4m.specs.declared.header.StreamHeader.{StreamHeader}
use Rattle.v_frame_y4m.proofs.ColorTexts.{one_color}
use Rattle.v_frame_y4m.proofs.NumberTexts.{own}

-- The text after the letter of the first parameter.
abbrev pub text_of : List (List ℕ) → List ℕ
text_of parameters = drop 1 (get_or parameters 0 [])

-- A byte that is not a digit does not occur in a number.
pub digits_without : (n c : ℕ) → n < 2 ^ 64 → ¬ (IsInRange 48 57 c) → All (λ x. nat_eq x c ≡ false) (decimal n)
digits_without n c small other = All-from_get_or (λ x. nat_eq x c ≡ false) (decimal n) 0
    (λ i within. ne_eqb _ c (not_in_digits own (decimal n) c
    (digits_decimal own n small) other i within))

pub colon_is_no_digit : ¬ (IsInRange 48 57 58)
colon_is_no_digit range = omega (arith, range.1)

pub ratio_pieces : (r : Ratio) → FitsRatio r → slice_split (λ x. nat_eq x 58) (ratio_text r) ≡ decimal r.numerator ∷
    decimal r.denominator ∷ []
ratio_pieces r fits =
    slice_split_at (λ x. nat_eq x 58) (decimal r.numerator) 58 (decimal r.denominator)
    (digits_without r.numerator 58 fits.0 colon_is_no_digit) refl
    ∙ ap (λ (rest : List (List ℕ)). decimal r.numerator ∷ rest)
    (slice_split_none (λ x. nat_eq x 58) (decimal r.denominator)
    (digits_without r.denominator 58 fits.1 colon_is_no_digit))

abbrev pub second : List (List ℕ) → List ℕ
second parts = get_or parts 1 []

abbrev pub first : List (List ℕ) → List ℕ
first parts = get_or parts 0 []

abbrev pub ratio_of : ℕ → ℕ → Ratio
ratio_of n d = record { numerator = n; denominator = d }

pub one_ratio : (r q : Ratio) → FitsRatio r → FitsRatio q → ratio_text r ≡ ratio_text q → r ≡ q
one_ratio r q rf qf same =
    let parts = sym (ratio_pieces r rf) ∙ ap (slice_split (λ x. nat_eq x 58)) same ∙ ratio_pieces q qf in
    let n = decimal_injective r.numerator q.numerator rf.0 qf.0 (ap first parts) in
    let d = decimal_injective r.denominator q.denominator rf.1 qf.1 (ap second parts) in
    ap (λ (x : ℕ). ratio_of x r.denominator) n ∙ ap (λ (x : ℕ). ratio_of q.numerator x) d

pub one_optional_ratio : (letter : ℕ) (a b : Option Ratio) → IfSome a FitsRatio → IfSome b FitsRatio
    → parameter_of letter ratio_text a ≡ parameter_of letter ratio_text b → a ≡ b
one_optional_ratio letter None None af bf same = refl
one_optional_ratio letter None (Some q) af bf same = absurd (search (rules, ap length same))
one_optional_ratio letter (Some r) None af bf same = absurd (search (rules, ap length same))
one_optional_ratio letter (Some r) (Some q) af bf same = ap Some (one_ratio r q af bf (ap text_of same))

-- The interlacing that the parameters of its letter state. Only proofs use it.
abbrev pub interlacing_said : List (List ℕ) → Option Interlacing
interlacing_said parameters = by_byte (get_or (text_of parameters) 0 0) where
  by_byte : ℕ → Option Interlacing
  by_byte byte = cond (nat_eq byte 112) (Some Progressive)
      (cond (nat_eq byte 116) (Some TopFirst) (cond (nat_eq byte 98) (Some BottomFirst) (cond
      (nat_eq byte 109) (Some Mixed) (cond (nat_eq byte 63) (Some Unknown) None))))

pub interlacing_again : (i : Option Interlacing) → interlacing_said (parameter_of 73 interlacing_text i) ≡ i
interlacing_again None = refl
interlacing_again (Some Progressive) = refl
interlacing_again (Some TopFirst) = refl
interlacing_again (Some BottomFirst) = refl
interlacing_again (Some Mixed) = refl
interlacing_again (Some Unknown) = refl

pub without_letters : (xs : List (List ℕ)) → map (drop 1) (map (λ (text : List ℕ). 88 ∷ text) xs) ≡ xs
without_letters [] = refl
without_letters (x ∷ xs) = ap (λ (rest : List (List ℕ)). x ∷ rest) (without_letters xs)

module _ (parameters : List (List ℕ)) (h k : StreamHeader) (a : Says parameters h) (b : Says parameters k)
    (s : HasSize h) (t : HasSize k) where
  pub one_header : h ≡ k
  one_header =
      let width = decimal_injective h.width k.width s.width.1 t.width.1 (ap text_of (sym a.width ∙ b.width)) in
      let height = decimal_injective h.height k.height s.height.1 t.height.1 (ap text_of (sym a.height ∙ b.height)) in
      let rate = one_optional_ratio 70 h.frame_rate k.frame_rate s.frame_rate t.frame_rate
      (sym a.frame_rate ∙ b.frame_rate) in
      let interlacing = sym (interlacing_again h.interlacing) ∙ ap interlacing_said (sym a.interlacing ∙ b.interlacing)
      ∙ interlacing_again k.interlacing in
      let aspect = one_optional_ratio 65 h.pixel_aspect k.pixel_aspect s.pixel_aspect t.pixel_aspect
      (sym a.pixel_aspect ∙ b.pixel_aspect) in
      let color = one_color h.color k.color (sym a.color ∙ b.color) in
      let extensions = sym (without_letters h.extensions) ∙ ap (map (drop 1)) (sym a.extensions ∙ b.extensions) ∙
      without_letters k.extensions in
      ap (λ (x : ℕ). record h { width = x }) width
      ∙ ap (λ (x : ℕ). record h { width = k.width; height = x }) height
      ∙ ap (λ (x : Option Ratio). record h { width = k.width; height = k.height; frame_rate = x }) rate
      ∙ ap (λ (x : Option Interlacing). record h {
        width = k.width;
        height = k.height;
        frame_rate = k.frame_rate;
        interlacing = x;
      }) interlacing
      ∙ ap (λ (x : Option Ratio). record k { pixel_aspect = x; color = h.color; extensions = h.extensions }) aspect
      ∙ ap (λ (x : Color). record k { color = x; extensions = h.extensions }) color
      ∙ ap (λ (x : List (List ℕ)). record k { extensions = x }) extensions
