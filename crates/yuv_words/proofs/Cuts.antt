-- If the text before a mark does not contain the mark, the text can be split there in only one way.
use Rattle.std.proofs.Common.{ℕ, ◌≡◌, ◌≢◌, ◌<◌, ◌^◌, List, [], ◌∷◌, ◌++◌, length, get_or, decimal, refl, sym, ◌∙◌, ap}
use Rattle.std.proofs.Common.{subst, arith, rules, suc, zero, Bool, true, false, cond, eqb}
use Rattle.std.specs.Prelude.{None, Some, Result, Ok, Err, MatchResult}
use Rattle.std.specs.Int.{IsInRange}
use Rattle.std.specs.Str.Parse.{ParsesUnsigned}
use Rattle.std.proofs.lemmas.Fmt.{decimal_injective, digits_decimal}
use Rattle.std.proofs.lemmas.Str.Parse.{not_in_digits}
use Rattle.std.proofs.lemmas.Str.Pattern.{IsSplitOnceResult, split_after}
use denote.Ref.{Bor}
use Rattle.v_frame_y4m.proofs.NumberTexts.{own, parsed}
use Rattle.yuv_words.specs.Values.{IsNumber, SpellsRaw, SpellsRectangle}
use Rattle.yuv_words.specs.declared.command.RawVideo.{RawVideo}
use Rattle.v_frame_formats.specs.declared.rectangle.Rectangle.{Rectangle}

eqb-false : (m n : ℕ) → eqb m n ≡ false → m ≡ n → ⊥
eqb-false m n differs is = grind (arith, differs, is)

-- The list does not contain the mark.
abbrev pub Lacks : ℕ → List ℕ → Type 0
Lacks mark xs = (i : ℕ) → i < length xs → get_or xs i 0 ≢ mark

-- A test of a list for having no mark.
abbrev pub plain : ℕ → List ℕ → Bool
plain mark [] = true
plain mark (b ∷ bs) = cond (eqb b mark) false (plain mark bs)

lacks_more : (mark b : ℕ) (bs : List ℕ) (here : Bool) → eqb b mark ≡ here → cond here false (plain mark bs) ≡ true
    → (b ≢ mark) × (plain mark bs ≡ true)
lacks_more mark b bs true here is = absurd (search (rules, is))
lacks_more mark b bs false here is = ((λ same. eqb-false b mark here same), is)

pub lacks_from : (mark : ℕ) (bs : List ℕ) → plain mark bs ≡ true → Lacks mark bs
lacks_from mark [] is i within same = omega (arith, within)
lacks_from mark (b ∷ bs) is zero within same = (lacks_more mark b bs (eqb b mark) refl is).0 same
lacks_from mark (b ∷ bs) is (suc i) within same =
    lacks_from mark bs (lacks_more mark b bs (eqb b mark) refl is).1 i (grind (arith, within)) same

pub marked : (xs ys : List ℕ) (mark : ℕ) → get_or (xs ++ mark ∷ ys) (length xs) 0 ≡ mark
marked [] ys mark = refl
marked (x ∷ xs) ys mark = grind (arith, marked xs ys mark)

pub inside : (xs ys : List ℕ) (mark : ℕ) → length xs < length (xs ++ mark ∷ ys)
inside [] ys mark = grind arith
inside (x ∷ xs) ys mark = grind (arith, inside xs ys mark)

lacks_tail : (mark x : ℕ) (xs : List ℕ) → Lacks mark (x ∷ xs) → Lacks mark xs
lacks_tail mark x xs lacks = λ i within is. lacks (suc i) (grind arith) is

heads : (x y : ℕ) (xs ys : List ℕ) → x ∷ xs ≡ y ∷ ys → x ≡ y
heads x y xs ys is = ap (λ (zs : List ℕ). get_or zs 0 0) is

pub tails : {A : Type 0} (x y : A) (xs ys : List A) → x ∷ xs ≡ y ∷ ys → xs ≡ ys
tails x y xs ys is = search rules

pub cut_same : (mark : ℕ) (xs ys rest tail : List ℕ) → Lacks mark xs → Lacks mark ys
    → xs ++ mark ∷ rest ≡ ys ++ mark ∷ tail → (xs ≡ ys) × (rest ≡ tail)
cut_same mark [] [] rest tail one other is = (refl, tails mark mark rest tail is)
cut_same mark [] (y ∷ ys) rest tail one other is =
    absurd (other 0 (grind arith) (sym (heads mark y rest (ys ++ mark ∷ tail) is)))
cut_same mark (x ∷ xs) [] rest tail one other is =
    absurd (one 0 (grind arith) (heads x mark (xs ++ mark ∷ rest) tail is))
cut_same mark (x ∷ xs) (y ∷ ys) rest tail one other is =
    let more = cut_same mark xs ys rest tail (lacks_tail mark x xs one) (lacks_tail mark y ys other)
    (tails x y (xs ++ mark ∷ rest) (ys ++ mark ∷ tail) is) in
    let first : x ≡ y = heads x y (xs ++ mark ∷ rest) (ys ++ mark ∷ tail) is in
    (ap (λ (z : ℕ). z ∷ xs) first ∙ ap (λ (zs : List ℕ). y ∷ zs) more.0, more.1)

module _ (mark : ℕ) (apart : ¬ (IsInRange 48 57 mark)) where
  pub number_lacks : (n : ℕ) → n < 2 ^ 64 → Lacks mark (decimal n)
  number_lacks n small = λ i within. not_in_digits own (decimal n) mark (digits_decimal own n small) apart i within

  pub one_cut : (m n : ℕ) (xs ys : List ℕ) → m < 2 ^ 64 → n < 2 ^ 64
      → decimal m ++ mark ∷ xs ≡ decimal n ++ mark ∷ ys → (m ≡ n) × (xs ≡ ys)
  one_cut m n xs ys small low is =
      let cut = cut_same mark (decimal m) (decimal n) xs ys (number_lacks m small) (number_lacks n low) is in
      (decimal_injective m n small low cut.0, cut.1)

  pub no_cut : (bs : List ℕ) → mark < 128 → IsSplitOnceResult mark bs None
      → (n : ℕ) (rest : List ℕ) → n < 2 ^ 64 → bs ≢ decimal n ++ mark ∷ rest
  no_cut bs ascii splits n rest small is =
      split_after mark bs (decimal n) rest None splits ascii is (number_lacks n small)

  -- If the digits before the first mark are not a number, no number precedes the mark.
  pub no_number : (bs : List ℕ) (digits rest : Bor (List ℕ)) → mark < 128
      → IsSplitOnceResult mark bs (Some (digits, rest)) → ((n : ℕ) → ¬ (IsNumber n digits.now))
      → (n : ℕ) (tail : List ℕ) → n < 2 ^ 64 → bs ≢ decimal n ++ mark ∷ tail
  no_number bs digits rest ascii splits none n tail small is =
      let cut = split_after mark bs (decimal n) tail (Some (digits, rest)) splits ascii is (number_lacks n small) in
      none n (cut.0, small)

module _ {E : Type 0} (bs : List ℕ) (plain : get_or bs 0 0 ≢ 43) (short : get_or bs 0 0 ≡ 48 → length bs ≡ 1) where
  pub parsed_number : (r : Result ℕ E) → ParsesUnsigned 64 10 bs r
      → MatchResult r (λ n. IsNumber n bs) (λ e. (n : ℕ) → ¬ (IsNumber n bs))
  parsed_number (Ok n) parses =
      (parsed {E = E} bs plain short (Ok n) parses, subst (λ (m : ℕ). m < 2 ^ 64) (sym parses.1) parses.0.1)
  parsed_number (Err e) parses = λ n is. parsed bs plain short (Err e) parses n is.1 is.0

pub comma_apart : ¬ (IsInRange 48 57 44)
comma_apart range = omega (arith, range.0)

pub x_apart : ¬ (IsInRange 48 57 120)
x_apart range = omega (arith, range.1)

pub colon_apart : ¬ (IsInRange 48 57 58)
colon_apart range = omega (arith, range.1)

same_sides : (r s : Rectangle) → r.x ≡ s.x → r.y ≡ s.y → r.width ≡ s.width → r.height ≡ s.height → r ≡ s
same_sides r s x y width height =
    ap (λ (n : ℕ). let one : Rectangle = record { x = n; y = r.y; width = r.width; height = r.height } in one) x
    ∙ ap (λ (n : ℕ). let one : Rectangle = record { x = s.x; y = n; width = r.width; height = r.height } in one) y
    ∙ ap (λ (n : ℕ). let one : Rectangle = record { x = s.x; y = s.y; width = n; height = r.height } in one) width
    ∙ ap (λ (n : ℕ). let one : Rectangle = record { x = s.x; y = s.y; width = s.width; height = n } in one) height

-- A text spells at most one rectangle.
pub one_rectangle : (r s : Rectangle) (text : List ℕ) → SpellsRectangle r text → SpellsRectangle s text → r ≡ s
one_rectangle r s text one other =
    let x = one_cut 44 comma_apart r.x s.x _ _ one.1.x other.1.x (sym one.0 ∙ other.0) in
    let y = one_cut 44 comma_apart r.y s.y _ _ one.1.y other.1.y x.1 in
    let width = one_cut 44 comma_apart r.width s.width _ _ one.1.width other.1.width y.1 in
    let height = decimal_injective r.height s.height one.1.height other.1.height width.1 in
    same_sides r s x.0 y.0 width.0 height

-- A text spells at most one size of headerless video.
pub one_size : (raw other : RawVideo) (text : List ℕ) → SpellsRaw raw text → SpellsRaw other text
    → (raw.width ≡ other.width) × (raw.height ≡ other.height)
one_size raw other text one two =
    let width = one_cut 120 x_apart raw.width other.width _ _ one.width two.width (sym one.spelled ∙ two.spelled) in
    let height = one_cut 58 colon_apart raw.height other.height _ _ one.height two.height width.1 in
    (width.0, height.0)

-- A text can be split after its first number in only one way.
pub rest_is : (mark : ℕ) → ¬ (IsInRange 48 57 mark) → (text rest : List ℕ) (n m : ℕ) (tail : List ℕ)
    → (text ≡ decimal n ++ mark ∷ rest) × (n < 2 ^ 64) → m < 2 ^ 64 → text ≡ decimal m ++ mark ∷ tail → rest ≡ tail
rest_is mark apart text rest n m tail cut small is =
    (one_cut mark apart n m rest tail cut.1 small (sym cut.0 ∙ is)).1
