-- A line that is rejected states no header.
use Rattle.std.proofs.Common.{ℕ, ◌≡◌, ◌≢◌, ◌<◌, ◌≤◌, ◌⊎◌, List, [], ◌∷◌, drop, get_or, length, decimal, refl, sym, ◌∙◌}
use Rattle.std.proofs.Common.{ap, subst, rules, arith, zero, suc, lit<}
use mathlib.Core.Logic.{inl, inr}
use Rattle.std.specs.Prelude.{Option, Some, None, Contains, IfSome, slice_index}
use Rattle.std.proofs.lemmas.List.Elements.{All-contains}
use Rattle.std.proofs.lemmas.Fmt.{decimal_injective}
use Rattle.v_frame_y4m.specs.Header.{letters, of_letter, parameter_of, ratio_text, interlacing_text, FitsRatio, HasSize}
use Rattle.v_frame_y4m.specs.Header.{IsHeader, Says}
use Rattle.v_frame_y4m.specs.Color.{color_text, stated}
use Rattle.v_frame_y4m.specs.Faults.{HasFault, HasNoNumber, HasNoRatio, HasNoInterlacing, HasNoColor, IsOfSize}
use Rattle.v_frame_y4m.specs.Faults.{IsRefusedFor}
use Rattle.v_frame_y4m.specs.declared.color.Color.{Color}
use Rattle.v_frame_y4m.specs.declared.header.Ratio.{Ratio}
use Rattle.v_frame_y4m.specs.declared.header.Interlacing.{Interlacing}
use Rattle.v_frame_y4m.specs.declared.header.StreamHeader.{StreamHeader}
use Rattle.v_frame_y4m.specs.declared.error.HeaderError.{HeaderError}
use Rattle.v_frame_y4m.specs.declared.error.HeaderError.TheVariants.{NotAStream, Missing, Duplicate, Malformed}
use Rattle.v_frame_y4m.specs.declared.error.HeaderError.TheVariants.{ZeroSize, SizeTooLarge, UnknownColor, OutOfMemory}
use Rattle.v_frame_y4m.proofs.ColorTexts.{stated_is}
use Rattle.v_frame_y4m.proofs.HeaderTexts.{first, text_of}

not_one : {A : Type 0} (x : A) → [] ≡ x ∷ [] → ⊥
not_one x is = search (rules, ap length is)

at_most_one : {A : Type 0} (letter : ℕ) (spell : A → List ℕ) (o : Option A) → length (parameter_of letter spell o) ≤ 1
at_most_one letter spell None = omega arith
at_most_one letter spell (Some a) = omega arith

module _ (parameters : List (List ℕ)) (h : StreamHeader) (says : Says parameters h) (size : HasSize h) where
  missing : (letter : ℕ) → of_letter letter parameters ≡ [] → (letter ≡ 87) ⊎ (letter ≡ 72) → ⊥
  missing letter none (inl e) = not_one _ (sym (subst (λ (l : ℕ). of_letter l parameters ≡ []) e none) ∙ says.width)
  missing letter none (inr e) = not_one _ (sym (subst (λ (l : ℕ). of_letter l parameters ≡ []) e none) ∙ says.height)

  zero_size : (letter : ℕ) → of_letter letter parameters ≡ (letter ∷ decimal 0) ∷ [] → (letter ≡ 87) ⊎ (letter ≡ 72) → ⊥
  zero_size letter is (inl e) =
      let same = ap text_of (sym (subst (λ (l : ℕ). of_letter l parameters ≡ (l ∷ decimal 0) ∷ []) e is) ∙ says.width)
      in
      omega (arith, size.width.0, decimal_injective 0 h.width (lit< tt) size.width.1 same)
  zero_size letter is (inr e) =
      let same = ap text_of (sym (subst (λ (l : ℕ). of_letter l parameters ≡ (l ∷ decimal 0) ∷ []) e is) ∙ says.height)
      in
      omega (arith, size.height.0, decimal_injective 0 h.height (lit< tt) size.height.1 same)

  no_number : (text : List ℕ) → IsOfSize parameters (λ letter. HasNoNumber parameters letter text) → ⊥
  no_number text (inl f) = f.1 h.width size.width.1 (ap first (sym f.0 ∙ says.width))
  no_number text (inr f) = f.1 h.height size.height.1 (ap first (sym f.0 ∙ says.height))

  no_ratio : (letter : ℕ) (text : List ℕ) (o : Option Ratio) → IfSome o FitsRatio → of_letter letter parameters ≡
      parameter_of letter ratio_text o
      → HasNoRatio parameters letter text → ⊥
  no_ratio letter text None fits is f = not_one text (sym is ∙ f.0)
  no_ratio letter text (Some r) fits is f = f.1 r fits (ap first (sym f.0 ∙ is))

  no_interlacing : (text : List ℕ) (o : Option Interlacing) → of_letter 73 parameters ≡ parameter_of 73
      interlacing_text o
      → HasNoInterlacing parameters text → ⊥
  no_interlacing text None is f = not_one text (sym is ∙ f.0)
  no_interlacing text (Some i) is f = f.1 i (ap first (sym f.0 ∙ is))

  no_color : (text : List ℕ) (o : Option Color) → stated h.color ≡ o → of_letter 67 parameters ≡ parameter_of 67
      color_text o
      → HasNoColor parameters text → ⊥
  no_color text None said is f = not_one text (sym is ∙ f.0)
  no_color text (Some c) said is f = f.1 c (stated_is h.color c said) (ap first (sym f.0 ∙ is))

  twice : (l letter : ℕ) → l ≡ letter → length (of_letter l parameters) ≤ 1 → 1 < length (of_letter letter parameters)
      → ⊥
  twice l letter e one two = omega (arith, subst (λ (m : ℕ). length (of_letter m parameters) ≤ 1) e one, two)

  one : {A : Type 0} (letter : ℕ) (spell : A → List ℕ) (o : Option A) → of_letter letter parameters ≡ parameter_of
      letter spell o
      → length (of_letter letter parameters) ≤ 1
  one letter spell o is = omega (arith, ap length is, at_most_one letter spell o)

  doubled : (letter k : ℕ) → k < 7 → get_or letters k letter ≡ letter → letter ≢ 88 → 1 < length
      (of_letter letter parameters) → ⊥
  doubled letter zero within e other two = twice 87 letter e (omega (arith, ap length says.width)) two
  doubled letter (suc zero) within e other two = twice 72 letter e (omega (arith, ap length says.height)) two
  doubled letter (suc (suc zero)) within e other two = twice 70 letter e
      (one 70 ratio_text h.frame_rate says.frame_rate) two
  doubled letter (suc (suc (suc zero))) within e other two = twice 73 letter e
      (one 73 interlacing_text h.interlacing says.interlacing) two
  doubled letter (suc (suc (suc (suc zero)))) within e other two = twice 65 letter e
      (one 65 ratio_text h.pixel_aspect says.pixel_aspect) two
  doubled letter (suc (suc (suc (suc (suc zero))))) within e other two = twice 67 letter e
      (one 67 color_text (stated h.color) says.color) two
  doubled letter (suc (suc (suc (suc (suc (suc zero)))))) within e other two = other (sym e)
  doubled letter (suc (suc (suc (suc (suc (suc (suc k))))))) within e other two = absurd (omega (arith, within))

  malformed : (text : List ℕ) → HasFault parameters (Malformed (record { bytes = text })) → ⊥
  malformed text (inl f) = f.1 (All-contains (λ x. Contains letters (slice_index x 0)) parameters text says.known f.0)
  malformed text (inr (inl f)) = no_number text f.0
  malformed text (inr (inr (inl f))) = no_ratio 70 text h.frame_rate size.frame_rate says.frame_rate f
  malformed text (inr (inr (inr (inl f)))) = no_ratio 65 text h.pixel_aspect size.pixel_aspect says.pixel_aspect f
  malformed text (inr (inr (inr (inr f)))) = no_interlacing text h.interlacing says.interlacing f

  pub refuted : (error : HeaderError) → error ≢ OutOfMemory → HasFault parameters error → ⊥
  refuted NotAStream other fault = fault
  refuted (Missing letter) other fault = missing letter fault.0 fault.1
  refuted (Duplicate letter) other fault = doubled letter fault.1.0.0 fault.1.0.1 fault.1.0.2 fault.1.1 fault.0
  refuted (Malformed text) other fault = malformed text.bytes fault
  refuted (ZeroSize letter) other fault = zero_size letter fault.0 fault.1
  refuted (SizeTooLarge text) other fault = no_number text.bytes fault.0
  refuted (UnknownColor text) other fault = no_color text.bytes (stated h.color) refl says.color fault
  refuted OutOfMemory other fault = other refl

pub refusal_refutes : (line : List ℕ) (error : HeaderError) (h : StreamHeader) → error ≢ OutOfMemory → IsRefusedFor
    line error → IsHeader line h → ⊥
refusal_refutes line error h other (inl memory) is = other memory
refusal_refutes line error h other (inr (inl begins)) is = begins.1 is.parameters is.pieces
refusal_refutes line error h other (inr (inr f)) is =
    let same = ap (drop 1) (sym f.1 ∙ is.pieces) in
    refuted is.parameters h is.says is.size error other (subst (λ (ps : List (List ℕ)). HasFault ps error) same f.2)

alone : (error : HeaderError) → (error ≢ OutOfMemory → ⊥) → error ≡ OutOfMemory
alone NotAStream f = absurd (f (λ is. absurd (search (rules, is))))
alone (Missing letter) f = absurd (f (λ is. absurd (search (rules, is))))
alone (Duplicate letter) f = absurd (f (λ is. absurd (search (rules, is))))
alone (Malformed text) f = absurd (f (λ is. absurd (search (rules, is))))
alone (ZeroSize letter) f = absurd (f (λ is. absurd (search (rules, is))))
alone (SizeTooLarge text) f = absurd (f (λ is. absurd (search (rules, is))))
alone (UnknownColor text) f = absurd (f (λ is. absurd (search (rules, is))))
alone OutOfMemory f = refl

pub memory_alone : (line : List ℕ) (error : HeaderError) (h : StreamHeader) → IsHeader line h → IsRefusedFor line error
    → error ≡ OutOfMemory
memory_alone line error h is refused = alone error (λ other. refusal_refutes line error h other refused is)
