-- The line that is written for a header is a header line, and states that header.
use Rattle.std.proofs.Common.{ℕ, ◌≡◌, ◌≢◌, ◌<◌, ◌≤◌, ◌^◌, List, [], ◌∷◌, ◌++◌, Bool, true, false, cond, map, decimal}
use Rattle.std.proofs.Common.{refl, sym, ◌∙◌, ap, rules, arith, lit<}
use Rattle.std.specs.Prelude.{Option, Some, None, All, Contains, IfSome, nat_eq, slice_index}
use Rattle.std.specs.List.{AllByRecursion, join_with_byte}
use Rattle.std.proofs.Common.{append-nil}
use Rattle.std.proofs.lemmas.Bool.{ne_eqb}
use Rattle.std.proofs.lemmas.List.Elements.{All-nil, All-cons, All-append, All-map, All-weaker, filter-append}
use Rattle.std.proofs.lemmas.List.Elements.{recursion_from_All}
use Rattle.std.proofs.lemmas.List.Splits.{slice_split_at, slice_split_none, join_with_byte-slice_split}
use Rattle.v_frame_y4m.specs.Header.{letters, of_letter, parameter_of, parameters_of, pieces, ratio_text}
use Rattle.v_frame_y4m.specs.Header.{interlacing_text, signature, spelled, header_line}
use Rattle.v_frame_y4m.specs.Header.{FitsRatio, HasSize, IsHeader, IsInOrder, IsPiece, Says}
use Rattle.v_frame_y4m.specs.Color.{color_text, stated}
use Rattle.v_frame_y4m.specs.declared.color.Depth.TheVariants.{Nine, Ten, Twelve, Fourteen, Sixteen}
use Rattle.v_frame_y4m.specs.declared.color.Color.{Color}
use Rattle.v_frame_y4m.specs.declared.color.Color.TheVariants.{Unstated, Yuv420, Yuv420Jpeg, Yuv420Mpeg2, Yuv420Paldv}
use Rattle.v_frame_y4m.specs.declared.color.Color.TheVariants.{Yuv411, Yuv422, Yuv444, Mono, Yuv420HighDepth}
use Rattle.v_frame_y4m.specs.declared.color.Color.TheVariants.{Yuv422HighDepth, Yuv444HighDepth, MonoHighDepth}
use Rattle.v_frame_y4m.specs.declared.header.Ratio.{Ratio}
use Rattle.v_frame_y4m.specs.declared.header.Interlacing.{Interlacing}
use Rattle.v_frame_y4m.specs.declared.header.Interlacing.TheVariants.{Progressive, TopFirst, BottomFirst, Mixed}
use Rattle.v_frame_y4m.specs.declared.header.Interlacing.TheVariants.{Unknown}
use Rattle.v_frame_y4m.specs.declared.header.StreamHeader.{StreamHeader}
use Rattle.v_frame_y4m.proofs.HeaderTexts.{digits_without}

abbrev pub IsNoSpace : ℕ → Type 0
IsNoSpace x = nat_eq x 32 ≡ false

-- No byte is a space.
abbrev pub NoSpace : List ℕ → Type 0
NoSpace text = All IsNoSpace text

-- The first byte is a letter.
abbrev pub HasLetter : List ℕ → Type 0
HasLetter p = Contains letters (slice_index p 0)

abbrev pub plain : List ℕ → Bool
plain [] = true
plain (x ∷ xs) = cond (nat_eq x 32) false (plain xs)

plain_step : (b rest : Bool) → cond b false rest ≡ true → (b ≡ false) × (rest ≡ true)
plain_step true rest is = absurd (search (rules, is))
plain_step false rest is = (refl, is)

plain_is : (xs : List ℕ) → plain xs ≡ true → NoSpace xs
plain_is [] is = All-nil IsNoSpace
plain_is (x ∷ xs) is =
    let step = plain_step (nat_eq x 32) (plain xs) is in
    All-cons IsNoSpace x xs step.0 (plain_is xs step.1)

color_plain : (c : Color) → plain (color_text c) ≡ true
color_plain Unstated = refl
color_plain Yuv420 = refl
color_plain Yuv420Jpeg = refl
color_plain Yuv420Mpeg2 = refl
color_plain Yuv420Paldv = refl
color_plain Yuv411 = refl
color_plain Yuv422 = refl
color_plain Yuv444 = refl
color_plain Mono = refl
color_plain (Yuv420HighDepth Nine) = refl
color_plain (Yuv420HighDepth Ten) = refl
color_plain (Yuv420HighDepth Twelve) = refl
color_plain (Yuv420HighDepth Fourteen) = refl
color_plain (Yuv420HighDepth Sixteen) = refl
color_plain (Yuv422HighDepth Nine) = refl
color_plain (Yuv422HighDepth Ten) = refl
color_plain (Yuv422HighDepth Twelve) = refl
color_plain (Yuv422HighDepth Fourteen) = refl
color_plain (Yuv422HighDepth Sixteen) = refl
color_plain (Yuv444HighDepth Nine) = refl
color_plain (Yuv444HighDepth Ten) = refl
color_plain (Yuv444HighDepth Twelve) = refl
color_plain (Yuv444HighDepth Fourteen) = refl
color_plain (Yuv444HighDepth Sixteen) = refl
color_plain (MonoHighDepth Nine) = refl
color_plain (MonoHighDepth Ten) = refl
color_plain (MonoHighDepth Twelve) = refl
color_plain (MonoHighDepth Fourteen) = refl
color_plain (MonoHighDepth Sixteen) = refl

interlacing_plain : (i : Interlacing) → plain (interlacing_text i) ≡ true
interlacing_plain Progressive = refl
interlacing_plain TopFirst = refl
interlacing_plain BottomFirst = refl
interlacing_plain Mixed = refl
interlacing_plain Unknown = refl

space_is_no_digit : ¬ ((48 ≤ 32) × (32 ≤ 57))
space_is_no_digit range = omega (arith, range.0)

decimal_plain : (n : ℕ) → n < 2 ^ 64 → NoSpace (decimal n)
decimal_plain n small = digits_without n 32 small space_is_no_digit

ratio_plain : (r : Ratio) → FitsRatio r → NoSpace (ratio_text r)
ratio_plain r fits = All-append IsNoSpace (decimal r.numerator) (58 ∷ decimal r.denominator)
    (decimal_plain r.numerator fits.0) (All-cons IsNoSpace 58
    (decimal r.denominator) refl (decimal_plain r.denominator fits.1))

optional_plain : {A : Type 0} (letter : ℕ) (spell : A → List ℕ) (o : Option A) → nat_eq letter 32 ≡ false → IfSome o
    (λ a. NoSpace (spell a))
    → All NoSpace (parameter_of letter spell o)
optional_plain letter spell None other each = All-nil NoSpace
optional_plain letter spell (Some a) other each = All-cons NoSpace (letter ∷ spell a) []
    (All-cons IsNoSpace letter (spell a) other each) (All-nil NoSpace)

rates_plain : (o : Option Ratio) → IfSome o FitsRatio → IfSome o (λ a. NoSpace (ratio_text a))
rates_plain None fits = tt
rates_plain (Some r) fits = ratio_plain r fits

interlacings_plain : (o : Option Interlacing) → IfSome o (λ a. NoSpace (interlacing_text a))
interlacings_plain None = tt
interlacings_plain (Some i) = plain_is (interlacing_text i) (interlacing_plain i)

colors_plain : (o : Option Color) → IfSome o (λ a. NoSpace (color_text a))
colors_plain None = tt
colors_plain (Some c) = plain_is (color_text c) (color_plain c)

extensions_plain : (xs : List (List ℕ)) → All NoSpace xs → All NoSpace (map (λ (text : List ℕ). 88 ∷ text) xs)
extensions_plain xs each = All-map NoSpace (λ (text : List ℕ). 88 ∷ text) xs (All-weaker NoSpace (λ x. NoSpace (88 ∷ x))
    (λ x none. All-cons IsNoSpace 88 x refl none) xs each)

pub parameters_plain : (h : StreamHeader) → HasSize h → All NoSpace h.extensions → All NoSpace (parameters_of h)
parameters_plain h size each =
    let fs = parameter_of 70 ratio_text h.frame_rate in
    let is = parameter_of 73 interlacing_text h.interlacing in
    let as' = parameter_of 65 ratio_text h.pixel_aspect in
    let cs = parameter_of 67 color_text (stated h.color) in
    let xs = map (λ (text : List ℕ). 88 ∷ text) h.extensions in
    All-cons NoSpace (87 ∷ decimal h.width) ((72 ∷ decimal h.height) ∷ (fs ++ (is ++ (as' ++ (cs ++ xs)))))
    (All-cons IsNoSpace 87 (decimal h.width) refl
    (decimal_plain h.width size.width.1))
    (All-cons NoSpace (72 ∷ decimal h.height) (fs ++ (is ++ (as' ++ (cs ++ xs))))
    (All-cons IsNoSpace 72 (decimal h.height) refl
    (decimal_plain h.height size.height.1))
    (All-append NoSpace fs (is ++ (as' ++ (cs ++ xs)))
    (optional_plain 70 ratio_text h.frame_rate refl (rates_plain h.frame_rate size.frame_rate))
    (All-append NoSpace is (as' ++ (cs ++ xs)) (optional_plain 73 interlacing_text h.interlacing refl
    (interlacings_plain h.interlacing))
    (All-append NoSpace as' (cs ++ xs) (optional_plain 65 ratio_text h.pixel_aspect refl
    (rates_plain h.pixel_aspect size.pixel_aspect))
    (All-append NoSpace cs xs (optional_plain 67 color_text (stated h.color) refl (colors_plain (stated h.color)))
    (extensions_plain h.extensions each))))))

-- Splitting a line at its spaces gives the pieces that were joined.
pub cut_again : (front : List ℕ) → NoSpace front → (ps : List (List ℕ)) → AllByRecursion NoSpace ps → pieces
    (front ++ spelled ps) ≡ front ∷ ps
cut_again front none [] each = ap pieces (append-nil front) ∙ slice_split_none (λ x. nat_eq x 32) front none
cut_again front none (p ∷ ps) each = slice_split_at (λ x. nat_eq x 32) front 32 (p ++ spelled ps) none refl ∙ ap
    (λ (rest : List (List ℕ)). front ∷ rest)
    (cut_again p each.0 ps each.1)

pub joined_again : (front : List ℕ) (ps : List (List ℕ)) → join_with_byte 32 (front ∷ ps) ≡ front ++ spelled ps
joined_again front [] = sym (append-nil front)
joined_again front (p ∷ ps) = ap (λ (rest : List ℕ). front ++ 32 ∷ rest) (joined_again p ps)

-- The parameters of one letter among those of another.
cond_same : {A : Type 0} (b : Bool) (x : A) → x ≡ cond b x x
cond_same true x = refl
cond_same false x = refl

pick : {A : Type 0} (l m : ℕ) (spell : A → List ℕ) (o : Option A) → of_letter l (parameter_of m spell o) ≡ cond
    (nat_eq m l) (parameter_of m spell o) []
pick l m spell None = cond_same (nat_eq m l) []
pick l m spell (Some a) = refl

cons_cond : (b : Bool) (x : List ℕ) (xs ys : List (List ℕ)) → ys ≡ cond b xs [] → cond b (x ∷ ys) ys ≡ cond b (x ∷ xs)
    []
cons_cond true x xs ys is = ap (λ (rest : List (List ℕ)). x ∷ rest) is
cons_cond false x xs ys is = is

pick_extensions : (l : ℕ) (xs : List (List ℕ)) → of_letter l (map (λ (text : List ℕ). 88 ∷ text) xs) ≡ cond
    (nat_eq 88 l) (map (λ
    (text : List ℕ). 88 ∷ text) xs) []
pick_extensions l [] = cond_same (nat_eq 88 l) []
pick_extensions l (x ∷ xs) = cons_cond (nat_eq 88 l) (88 ∷ x) _ _ (pick_extensions l xs)

five : (l : ℕ) (a b c d e : List (List ℕ)) → of_letter l (a ++ (b ++ (c ++ (d ++ e)))) ≡ of_letter l a ++
    (of_letter l b ++ (of_letter l c ++
    (of_letter l d ++ of_letter l e)))
five l a b c d e =
    filter-append _ a _ ∙ ap (λ (r : List (List ℕ)). of_letter l a ++ r)
    (filter-append _ b _ ∙ ap (λ (r : List (List ℕ)). of_letter l b ++ r)
    (filter-append _ c _ ∙ ap (λ (r : List (List ℕ)). of_letter l c ++ r) (filter-append _ d e)))

module _ (h : StreamHeader) where
  abbrev pub a : List (List ℕ)
  a = parameter_of 70 ratio_text h.frame_rate

  abbrev pub b : List (List ℕ)
  b = parameter_of 73 interlacing_text h.interlacing

  abbrev pub c : List (List ℕ)
  c = parameter_of 65 ratio_text h.pixel_aspect

  abbrev pub d : List (List ℕ)
  d = parameter_of 67 color_text (stated h.color)

  abbrev pub e : List (List ℕ)
  e = map (λ (text : List ℕ). 88 ∷ text) h.extensions

  -- The parameters of a letter after W and H.
  behind : (l : ℕ) → of_letter l (a ++ (b ++ (c ++ (d ++ e)))) ≡ cond (nat_eq 70 l) a [] ++
      (cond (nat_eq 73 l) b [] ++ (cond (nat_eq 65 l) c [] ++ (cond
      (nat_eq 67 l) d [] ++ cond (nat_eq 88 l) e [])))
  behind l =
      five l a b c d e
      ∙ ap (λ (x : List (List ℕ)). x ++ (of_letter l b ++ (of_letter l c ++ (of_letter l d ++ of_letter l e))))
      (pick l 70 ratio_text h.frame_rate)
      ∙ ap (λ (x : List (List ℕ)). cond (nat_eq 70 l) a [] ++
      (x ++ (of_letter l c ++ (of_letter l d ++ of_letter l e))))
      (pick l 73 interlacing_text h.interlacing)
      ∙ ap (λ (x : List (List ℕ)). cond (nat_eq 70 l) a [] ++
      (cond (nat_eq 73 l) b [] ++ (x ++ (of_letter l d ++ of_letter l e))))
      (pick l 65 ratio_text h.pixel_aspect)
      ∙ ap (λ (x : List (List ℕ)). cond (nat_eq 70 l) a [] ++
      (cond (nat_eq 73 l) b [] ++ (cond (nat_eq 65 l) c [] ++ (x ++ of_letter l e))))
      (pick l 67 color_text (stated h.color))
      ∙ ap (λ (x : List (List ℕ)). cond (nat_eq 70 l) a [] ++
      (cond (nat_eq 73 l) b [] ++ (cond (nat_eq 65 l) c [] ++ (cond (nat_eq 67 l) d [] ++ x))))
      (pick_extensions l h.extensions)

  known_one : {A : Type 0} (letter : ℕ) (spell : A → List ℕ) (o : Option A) → Contains letters letter → All HasLetter
      (parameter_of letter spell o)
  known_one letter spell None is = All-nil HasLetter
  known_one letter spell (Some x) is = All-cons HasLetter (letter ∷ spell x) [] is (All-nil HasLetter)

  known_extensions : (xs : List (List ℕ)) → All HasLetter (map (λ (text : List ℕ). 88 ∷ text) xs)
  known_extensions [] = All-nil HasLetter
  known_extensions (x ∷ xs) =
      let known : Contains letters 88 = (6, lit< tt, refl) in
      All-cons HasLetter (88 ∷ x) (map (λ (text : List ℕ). 88 ∷ text) xs) known (known_extensions xs)

  known_all : All HasLetter (parameters_of h)
  known_all =
      let w : Contains letters 87 = (0, lit< tt, refl) in
      let hh : Contains letters 72 = (1, lit< tt, refl) in
      let f : Contains letters 70 = (2, lit< tt, refl) in
      let ii : Contains letters 73 = (3, lit< tt, refl) in
      let aa : Contains letters 65 = (4, lit< tt, refl) in
      let cc' : Contains letters 67 = (5, lit< tt, refl) in
      All-cons HasLetter (87 ∷ decimal h.width) ((72 ∷ decimal h.height) ∷ (a ++ (b ++ (c ++ (d ++ e))))) w
      (All-cons HasLetter (72 ∷ decimal h.height)
      (a ++ (b ++ (c ++ (d ++ e)))) hh
      (All-append HasLetter a (b ++ (c ++ (d ++ e))) (known_one 70 ratio_text h.frame_rate f)
      (All-append HasLetter b (c ++ (d ++ e))
      (known_one 73 interlacing_text h.interlacing ii)
      (All-append HasLetter c (d ++ e) (known_one 65 ratio_text h.pixel_aspect aa)
      (All-append HasLetter d e (known_one 67 color_text
      (stated h.color) cc') (known_extensions h.extensions))))))

  pub says_itself : Says (parameters_of h) h
  says_itself = record {
    width = ap (λ (r : List (List ℕ)). (87 ∷ decimal h.width) ∷ r) (behind 87);
    height = ap (λ (r : List (List ℕ)). (72 ∷ decimal h.height) ∷ r) (behind 72);
    frame_rate = behind 70 ∙ append-nil a;
    interlacing = behind 73 ∙ append-nil b;
    pixel_aspect = behind 65 ∙ append-nil c;
    color = behind 67 ∙ append-nil d;
    extensions = behind 88;
    known = known_all;
  }

  pub written_is_header : HasSize h → All NoSpace h.extensions → IsHeader (header_line h) h
  written_is_header size each = record {
    parameters = parameters_of h;
    pieces = cut_again signature (plain_is signature refl) (parameters_of h)
        (recursion_from_All NoSpace (parameters_of h) (parameters_plain h size each));
    says = says_itself;
    size = size;
  }

  -- Parameters in the order of the writer that state a header are those that are written for it.
  pub in_order_is_written : (ps : List (List ℕ)) → Says ps h → IsInOrder ps → ps ≡ parameters_of h
  in_order_is_written ps says order =
      order
      ∙ ap (λ (x : List (List ℕ)). x ++ (of_letter 72 ps ++
      (of_letter 70 ps ++ (of_letter 73 ps ++ (of_letter 65 ps ++ (of_letter 67 ps ++
      (of_letter 88 ps ++ []))))))) says.width
      ∙ ap (λ (x : List (List ℕ)). (87 ∷ decimal h.width) ∷
      (x ++ (of_letter 70 ps ++ (of_letter 73 ps ++ (of_letter 65 ps ++ (of_letter 67 ps ++
      (of_letter 88 ps ++ []))))))) says.height
      ∙ ap (λ (x : List (List ℕ)). (87 ∷ decimal h.width) ∷ (72 ∷ decimal h.height) ∷
      (x ++ (of_letter 73 ps ++ (of_letter 65 ps ++ (of_letter 67 ps ++
      (of_letter 88 ps ++ [])))))) says.frame_rate
      ∙ ap (λ (x : List (List ℕ)). (87 ∷ decimal h.width) ∷ (72 ∷ decimal h.height) ∷
      (a ++ (x ++ (of_letter 65 ps ++ (of_letter 67 ps ++
      (of_letter 88 ps ++ [])))))) says.interlacing
      ∙ ap (λ (x : List (List ℕ)). (87 ∷ decimal h.width) ∷ (72 ∷ decimal h.height) ∷
      (a ++ (b ++ (x ++ (of_letter 67 ps ++
      (of_letter 88 ps ++ [])))))) says.pixel_aspect
      ∙ ap (λ (x : List (List ℕ)). (87 ∷ decimal h.width) ∷ (72 ∷ decimal h.height) ∷
      (a ++ (b ++ (c ++ (x ++ (of_letter 88 ps ++ [])))))) says.color
      ∙ ap (λ (x : List (List ℕ)). (87 ∷ decimal h.width) ∷ (72 ∷ decimal h.height) ∷ (a ++ (b ++ (c ++ (d ++ x)))))
      (append-nil
      (of_letter 88 ps) ∙ says.extensions)

  pub in_order_comes_back : (line : List ℕ) (is : IsHeader line h) → IsInOrder is.parameters → header_line h ≡ line
  in_order_comes_back line is order =
      ap (λ (ps : List (List ℕ)). signature ++ spelled ps) (sym (in_order_is_written is.parameters is.says order))
      ∙ sym (joined_again signature is.parameters) ∙ ap (join_with_byte 32) (sym is.pieces) ∙
      join_with_byte-slice_split 32 line

abbrev pub IsPieceByte : ℕ → Type 0
IsPieceByte byte = (byte ≢ 32) × (byte ≢ 10)

pub piece_has_no_space : (text : List ℕ) → IsPiece text → NoSpace text
piece_has_no_space text each = All-weaker IsPieceByte IsNoSpace (λ x both. ne_eqb x 32 both.0) text each
