-- The strict line that a line means.
use Rattle.std.proofs.Common.{ℕ, zero, suc, ◌≡◌, ◌≢◌, ◌-◌, List, [], ◌∷◌, ◌++◌, Bool, true, false, cond, map, drop, take}
use Rattle.std.proofs.Common.{decimal, get_or, length, refl, sym, ◌∙◌, ap, subst, append_assoc, rules, arith}
use Rattle.std.proofs.Common.{◌<◌, ◌+◌, drop-cons}
use denote.Ref.{Bor}
use mathlib.Core.Logic.{inl, inr}
use Rattle.std.specs.Prelude.{Option, Some, None, All, Contains, codes, filter, nat_eq, nat_lt, slice_index, ◌&&◌}
use Rattle.std.specs.List.{AllByRecursion, join_with_byte, list_all}
use Rattle.std.proofs.lemmas.Bool.{ne_eqb}
use Rattle.std.proofs.lemmas.List.Folds.{list_all-append}
use Rattle.std.proofs.lemmas.List.Elements.{All-nil, All-cons, All-append, All-contains, All-filter, All-from_recursion}
use Rattle.std.proofs.lemmas.List.Elements.{All-map, All-take, All-weaker, recursion_from_All}
use Rattle.std.proofs.lemmas.List.Splits.{join_with_byte-slice_split}
use Rattle.std.proofs.lemmas.List.Sums.{AllPass-from_list_all}
use Rattle.v_frame_y4m.specs.Header.{letters, of_letter, parameter_of, pieces, ratio_text, signature, spelled, texts_of, IsHeader}
use Rattle.v_frame_y4m.specs.Lax.{full_rate, is_digit, is_filled, is_whole_rate, last_byte, strict_line, without_return}
use Rattle.v_frame_y4m.specs.Lax.{followed_by}
use Rattle.v_frame_y4m.specs.Streams.{IsFrameLine, IsLine}
use Rattle.v_frame_y4m.specs.declared.header.Ratio.{Ratio}
use Rattle.v_frame_y4m.specs.declared.header.StreamHeader.{StreamHeader}
use Rattle.v_frame_y4m.proofs.CleanPieces.{clean_pieces, InPiece}
use Rattle.v_frame_y4m.proofs.HeaderLines.{cut_again, joined_again, HasLetter, IsNoSpace, NoSpace}

abbrev pub IsFilled : List ℕ → Type 0
IsFilled piece = is_filled piece ≡ true

-- The piece is not a frame rate of a single number.
abbrev pub IsFull : List ℕ → Type 0
IsFull piece = is_whole_rate piece ≡ false

-- The pieces that are kept, in their strict form.
abbrev pub kept_pieces : List ℕ → List (List ℕ)
kept_pieces line = map full_rate (filter is_filled (pieces line))

no_return : (line : List ℕ) → last_byte line ≢ 13 → without_return line ≡ line
no_return line other =
    ap (λ (b : Bool). cond b (take (length line - 1) line) line) (ne_eqb (last_byte line) 13 other)

filter_filled : (ps : List (List ℕ)) → AllByRecursion IsFilled ps → filter is_filled ps ≡ ps
filter_filled [] each = refl
filter_filled (p ∷ ps) each =
    ap (λ (b : Bool). cond b (p ∷ filter is_filled ps) (filter is_filled ps)) each.0
    ∙ ap (λ (rest : List (List ℕ)). p ∷ rest) (filter_filled ps each.1)

map_full : (ps : List (List ℕ)) → AllByRecursion IsFull ps → map full_rate ps ≡ ps
map_full [] each = refl
map_full (p ∷ ps) each =
    ap (λ (b : Bool). cond b (p ++ codes ":1") p ∷ map full_rate ps) each.0
    ∙ ap (λ (rest : List (List ℕ)). p ∷ rest) (map_full ps each.1)

-- A line of such pieces is strict.
settled : (line : List ℕ) (ps : List (List ℕ)) → pieces line ≡ ps → AllByRecursion IsFilled ps → AllByRecursion IsFull ps
    → last_byte line ≢ 13 → strict_line line ≡ join_with_byte 32 ps
settled line ps cut filled full other =
    ap (λ (l : List ℕ). join_with_byte 32 (kept_pieces l)) (no_return line other)
    ∙ ap (λ (qs : List (List ℕ)). join_with_byte 32 (map full_rate (filter is_filled qs))) cut
    ∙ ap (λ (qs : List (List ℕ)). join_with_byte 32 (map full_rate qs)) (filter_filled ps filled)
    ∙ ap (join_with_byte 32) (map_full ps full)

-- The pieces of a header have letters, and its frame rate has two numbers.
letter_is_filled : (p : List ℕ) → HasLetter p → IsFilled p
letter_is_filled [] known =
    let above = AllPass-from_list_all (λ x. nat_lt 0 x) letters refl in
    let zero_is : nat_lt 0 0 ≡ true = All-contains (λ x. nat_lt 0 x ≡ true) letters 0 above known in
    absurd (search (rules, zero_is))
letter_is_filled (x ∷ xs) known = refl

first_fails : (a rest : Bool) → a ≡ false → (a && rest) ≡ false
first_fails true rest is = absurd (search (rules, is))
first_fails false rest is = refl

last_fails : (a b c : Bool) → c ≡ false → (a && (b && c)) ≡ false
last_fails true true c is = is
last_fails true false c is = refl
last_fails false b c is = refl

and_false : (b : Bool) → (b && false) ≡ false
and_false true = refl
and_false false = refl

colon_is_no_digit : (xs ys : List ℕ) → list_all is_digit (xs ++ 58 ∷ ys) ≡ false
colon_is_no_digit xs ys = list_all-append is_digit xs (58 ∷ ys) ∙ and_false (list_all is_digit xs)

ratio_is_full : (r : Ratio) → IsFull (70 ∷ ratio_text r)
ratio_is_full r = last_fails true (nat_lt 48 (slice_index (ratio_text r) 0)) _
    (colon_is_no_digit (decimal r.numerator) (decimal r.denominator))

abbrev IsRatioParameter : List ℕ → Type 0
IsRatioParameter p = (r : Ratio) × (p ≡ 70 ∷ ratio_text r)

first_is_full : (b : Bool) (p : List ℕ) (ps : List (List ℕ)) → nat_eq (slice_index p 0) 70 ≡ b
    → AllByRecursion IsRatioParameter (cond b (p ∷ ps) ps) → IsFull p × AllByRecursion IsRatioParameter ps
first_is_full true p ps is each = (subst IsFull (sym each.0.1) (ratio_is_full each.0.0), each.1)
first_is_full false p ps is each = (
  first_fails (nat_eq (slice_index p 0) 70) (nat_lt 48 (slice_index p 1) && list_all is_digit (drop 1 p)) is,
  each,
)

are_full : (ps : List (List ℕ)) → AllByRecursion IsRatioParameter (of_letter 70 ps) → AllByRecursion IsFull ps
are_full [] each = tt
are_full (p ∷ ps) each =
    let step = first_is_full (nat_eq (slice_index p 0) 70) p (of_letter 70 ps) refl each in
    (step.0, are_full ps step.1)

one_ratio_at_most : (o : Option Ratio) → AllByRecursion IsRatioParameter (parameter_of 70 ratio_text o)
one_ratio_at_most None = tt
one_ratio_at_most (Some r) = ((r, refl), tt)

pub header_is_strict : (line : List ℕ) (h : StreamHeader) → IsHeader line h → last_byte line ≢ 13 → strict_line line ≡ line
header_is_strict line h is other =
    let filled = recursion_from_All IsFilled is.parameters
    (All-weaker HasLetter IsFilled letter_is_filled is.parameters is.says.known) in
    let ratios = subst (AllByRecursion IsRatioParameter) (sym is.says.frame_rate) (one_ratio_at_most h.frame_rate) in
    settled line (signature ∷ is.parameters) is.pieces (refl, filled) (refl, are_full is.parameters ratios) other
    ∙ ap (join_with_byte 32) (sym is.pieces) ∙ join_with_byte-slice_split 32 line

-- A property of each byte of a line holds for each byte of its strict line.
module _ (P : ℕ → Type 0) where
  bytes_of_pieces : (line : List ℕ) → All P line → All (All (InPiece P)) (pieces line)
  bytes_of_pieces line each = All-weaker (AllByRecursion (InPiece P)) (All (InPiece P)) (All-from_recursion (InPiece P)) (pieces line)
      (All-from_recursion (AllByRecursion (InPiece P)) (pieces line) (clean_pieces P line (recursion_from_All P line each)))

  module _ (colon : P 58) (one : P 49) where
    bytes_in_full : (b : Bool) (p : List ℕ) → All (InPiece P) p → All (InPiece P) (cond b (p ++ codes ":1") p)
    bytes_in_full true p each = All-append (InPiece P) p (58 ∷ 49 ∷ []) each
        (All-cons (InPiece P) 58 (49 ∷ []) (colon, refl) (All-cons (InPiece P) 49 [] (one, refl) (All-nil (InPiece P))))
    bytes_in_full false p each = each

    bytes_of_kept : (line : List ℕ) → All P line → All (All (InPiece P)) (kept_pieces line)
    bytes_of_kept line each = All-map (All (InPiece P)) full_rate (filter is_filled (pieces line))
        (All-weaker (All (InPiece P)) (λ p. All (InPiece P) (full_rate p)) (λ p. bytes_in_full (is_whole_rate p) p)
        (filter is_filled (pieces line)) (All-filter is_filled (All (InPiece P)) (pieces line) (bytes_of_pieces line each)))

  bytes_joined : P 32 → (ps : List (List ℕ)) → AllByRecursion (All (InPiece P)) ps → All P (join_with_byte 32 ps)
  bytes_joined between [] each = All-nil P
  bytes_joined between (p ∷ []) each = All-weaker (InPiece P) P (λ x both. both.0) p each.0
  bytes_joined between (p ∷ q ∷ ps) each =
      All-append P p (32 ∷ join_with_byte 32 (q ∷ ps)) (All-weaker (InPiece P) P (λ x both. both.0) p each.0)
      (All-cons P 32 (join_with_byte 32 (q ∷ ps)) between (bytes_joined between (q ∷ ps) each.1))

bytes_without_return : (P : ℕ → Type 0) (b : Bool) (n : ℕ) (line : List ℕ) → All P line → All P (cond b (take n line) line)
bytes_without_return P true n line each = All-take P n line each
bytes_without_return P false n line each = each

pub strict_line_is_line : (line : List ℕ) → IsLine line → IsLine (strict_line line)
strict_line_is_line line ended =
    let P = λ (x : ℕ). x ≢ 10 in
    let cut = without_return line in
    let each = bytes_without_return P (nat_eq (last_byte line) 13) (length line - 1) line ended in
    bytes_joined P (λ e. omega (arith, e)) (kept_pieces cut) (recursion_from_All (All (InPiece P)) (kept_pieces cut)
    (bytes_of_kept P (λ e. omega (arith, e)) (λ e. omega (arith, e)) cut each))

-- The pieces of the strict line are the kept pieces of the line.
keep_filled : (b : Bool) (p : List ℕ) (ps : List (List ℕ)) → is_filled p ≡ b → AllByRecursion IsFilled ps
    → AllByRecursion IsFilled (cond b (p ∷ ps) ps)
keep_filled true p ps is rest = (is, rest)
keep_filled false p ps is rest = rest

filtered : (ps : List (List ℕ)) → AllByRecursion IsFilled (filter is_filled ps)
filtered [] = tt
filtered (p ∷ ps) = keep_filled (is_filled p) p (filter is_filled ps) refl (filtered ps)

filled_in_full : (b : Bool) (p : List ℕ) → IsFilled p → IsFilled (cond b (p ++ codes ":1") p)
filled_in_full b [] is = absurd (search (rules, is))
filled_in_full true (x ∷ xs) is = refl
filled_in_full false (x ∷ xs) is = refl

full_in_full : (b : Bool) (p : List ℕ) → is_whole_rate p ≡ b → IsFilled p → IsFull (cond b (p ++ codes ":1") p)
full_in_full b [] is filled = absurd (search (rules, filled))
full_in_full true (x ∷ xs) is filled = last_fails (nat_eq x 70) (nat_lt 48 (slice_index (xs ++ codes ":1") 0)) _
    (colon_is_no_digit xs (49 ∷ []))
full_in_full false (x ∷ xs) is filled = is

made_full : (ps : List (List ℕ)) → AllByRecursion IsFilled ps
    → AllByRecursion IsFilled (map full_rate ps) × AllByRecursion IsFull (map full_rate ps)
made_full [] each = (tt, tt)
made_full (p ∷ ps) each =
    let rest = made_full ps each.1 in (
      (filled_in_full (is_whole_rate p) p each.0, rest.0),
      (full_in_full (is_whole_rate p) p refl each.0, rest.1),
    )

again : (ps : List (List ℕ)) → AllByRecursion NoSpace ps → AllByRecursion IsFilled ps → AllByRecursion IsFull ps
    → last_byte (join_with_byte 32 ps) ≢ 13 → strict_line (join_with_byte 32 ps) ≡ join_with_byte 32 ps
again [] spaces filled full other = refl
again (p ∷ ps) spaces filled full other =
    let cut = ap pieces (joined_again p ps) ∙ cut_again p spaces.0 ps spaces.1 in
    settled (join_with_byte 32 (p ∷ ps)) (p ∷ ps) cut filled full other

abbrev IsAnyByte : ℕ → Type 0
IsAnyByte x = Unit {0}

pub strict_line_stays : (line : List ℕ) → last_byte (strict_line line) ≢ 13 → strict_line (strict_line line) ≡ strict_line line
strict_line_stays line other =
    let cut = without_return line in
    let kept = kept_pieces cut in
    let made = made_full (filter is_filled (pieces cut)) (filtered (pieces cut)) in
    let bytes = bytes_of_kept IsAnyByte tt tt cut (λ k d within. tt) in
    let spaces = recursion_from_All NoSpace kept (All-weaker (All (InPiece IsAnyByte)) NoSpace
    (λ p. All-weaker (InPiece IsAnyByte) IsNoSpace (λ x both. both.1) p) kept bytes) in
    again kept spaces made.0 made.1 other

-- The line in front of a frame, without a carriage return at its end.
ends_after : (b : Bool) (rest : List ℕ) → nat_eq (last_byte (codes "FRAME " ++ rest)) 13 ≡ b
    → IsFrameLine (cond b (take (length (codes "FRAME " ++ rest) - 1) (codes "FRAME " ++ rest)) (codes "FRAME " ++ rest))
ends_after false rest is = inr (rest, refl)
ends_after true [] is = absurd (search (rules, is))
ends_after true (x ∷ xs) is =
    let long : length (codes "FRAME " ++ x ∷ xs) - 1 ≡ suc (suc (suc (suc (suc (suc (length xs)))))) = omega arith in
    inr (take (length xs) (x ∷ xs), ap (λ (n : ℕ). take n (codes "FRAME " ++ x ∷ xs)) long)

pub frame_line_is_lax : (line : List ℕ) → IsFrameLine line → IsFrameLine (without_return line)
frame_line_is_lax line (inl is) = subst (λ (l : List ℕ). IsFrameLine (without_return l)) (sym is) (inl refl)
frame_line_is_lax line (inr is) = subst (λ (l : List ℕ). IsFrameLine (without_return l)) (sym is.1)
    (ends_after (nat_eq (last_byte (codes "FRAME " ++ is.0)) 13) is.0 refl)

-- A line that is built piece by piece.
abbrev pub made_so_far : List ℕ → List (List ℕ) → List ℕ
made_so_far [] ps = join_with_byte 32 ps
made_so_far (x ∷ xs) ps = x ∷ xs ++ spelled ps

made_more : (made p : List ℕ) (rest : List (List ℕ)) → IsFilled p
    → made_so_far (followed_by made p) rest ≡ made_so_far made (p ∷ rest)
made_more [] [] rest is = absurd (search (rules, is))
made_more [] (x ∷ xs) rest is = sym (joined_again (x ∷ xs) rest)
made_more (y ∷ ys) p rest is = append_assoc (y ∷ ys) (32 ∷ p) (spelled rest)

filled_or_empty : (p : List ℕ) → (length p ≡ 0 → ⊥) → IsFilled p
filled_or_empty [] some = absurd (some refl)
filled_or_empty (x ∷ xs) some = refl

not_filled : (p : List ℕ) → length p ≡ 0 → is_filled p ≡ false
not_filled [] none = refl
not_filled (x ∷ xs) none = absurd (omega (arith, none))

module _ (made : List ℕ) (ps : List (Bor (List ℕ))) (i : ℕ) (w : Bor (List ℕ)) (within : i < length ps) where
  abbrev piece : List ℕ
  piece = (get_or ps i w).now

  abbrev behind : ℕ → List (List ℕ)
  behind n = map full_rate (filter is_filled (texts_of (drop n ps)))

  abbrev all_from : Bool → List (List ℕ)
  all_from b =
      map full_rate (cond b (piece ∷ filter is_filled (texts_of (drop (suc i) ps))) (filter is_filled (texts_of (drop (suc i) ps))))

  from_piece : (b : Bool) → is_filled piece ≡ b → behind i ≡ all_from b
  from_piece b is =
      ap (λ (rest : List (Bor (List ℕ))). map full_rate (filter is_filled (texts_of rest))) (drop-cons ps i w within)
      ∙ ap all_from is

  next_is : i + 1 ≡ suc i
  next_is = omega arith

  -- A piece that is not empty is appended, and an empty one is skipped.
  pub piece_added : (length piece ≡ 0 → ⊥)
      → made_so_far (followed_by made (full_rate piece)) (behind (i + 1)) ≡ made_so_far made (behind i)
  piece_added some =
      let filled = filled_or_empty piece some in
      ap (λ (n : ℕ). made_so_far (followed_by made (full_rate piece)) (behind n)) next_is
      ∙ made_more made (full_rate piece) (behind (suc i)) (filled_in_full (is_whole_rate piece) piece filled)
      ∙ ap (made_so_far made) (sym (from_piece true filled))

  pub piece_passed : length piece ≡ 0 → made_so_far made (behind (i + 1)) ≡ made_so_far made (behind i)
  piece_passed none =
      ap (λ (n : ℕ). made_so_far made (behind n)) next_is
      ∙ ap (made_so_far made) (sym (from_piece false (not_filled piece none)))
