-- A header that was read from a line can be written: its extensions contain no space and no line
-- feed.
use Rattle.std.proofs.Common.{ℕ, ◌≡◌, ◌≢◌, List, [], ◌∷◌, Bool, true, false, cond, map, refl, subst}
use Rattle.std.specs.Prelude.{nat_eq}
use Rattle.std.specs.List.{AllByRecursion, onto_first}
use Rattle.std.proofs.lemmas.Bool.{eqb-false}
use Rattle.std.proofs.lemmas.List.Elements.{All-weaker, All-from_recursion, recursion_from_All}
use Rattle.v_frame_y4m.specs.Header.{of_letter, pieces, IsHeader, IsPiece, IsWritable}
use Rattle.v_frame_y4m.specs.Streams.{IsLine}
use Rattle.v_frame_y4m.specs.declared.header.StreamHeader.{StreamHeader}

-- A property of the bytes of a piece, given a property of the bytes of its line.
abbrev pub InPiece : (ℕ → Type 0) → ℕ → Type 0
InPiece P x = P x × (nat_eq x 32 ≡ false)

module _ (P : ℕ → Type 0) where
  onto : (x : ℕ) → P x → (b : Bool) → nat_eq x 32 ≡ b → (parts : List (List ℕ))
      → AllByRecursion (AllByRecursion (InPiece P)) parts
      → AllByRecursion (AllByRecursion (InPiece P)) (cond b ([] ∷ parts) (onto_first x parts))
  onto x line true is parts rest = (tt, rest)
  onto x line false is [] rest = (((line, is), tt), tt)
  onto x line false is (part ∷ parts) rest = (((line, is), rest.0), rest.1)

  pub clean_pieces : (line : List ℕ) → AllByRecursion P line → AllByRecursion (AllByRecursion (InPiece P)) (pieces line)
  clean_pieces [] each = (tt, tt)
  clean_pieces (x ∷ xs) each = onto x each.0 (nat_eq x 32) refl (pieces xs) (clean_pieces xs each.1)

abbrev IsNoFeed : ℕ → Type 0
IsNoFeed x = x ≢ 10

abbrev IsClean : ℕ → Type 0
IsClean x = InPiece IsNoFeed x

abbrev pub IsPieceByte : ℕ → Type 0
IsPieceByte byte = (byte ≢ 32) × (byte ≢ 10)

abbrev pub Clean : List ℕ → Type 0
Clean text = AllByRecursion IsClean text

kept : (b : Bool) (x : List ℕ) (xs : List (List ℕ)) → Clean x → AllByRecursion Clean xs → AllByRecursion Clean
    (cond b (x ∷ xs) xs)
kept true x xs one rest = (one, rest)
kept false x xs one rest = rest

clean_of_letter : (l : ℕ) (ps : List (List ℕ)) → AllByRecursion Clean ps → AllByRecursion Clean (of_letter l ps)
clean_of_letter l [] each = tt
clean_of_letter l (p ∷ ps) each = kept _ p (of_letter l ps) each.0 (clean_of_letter l ps each.1)

clean_extensions : (xs : List (List ℕ)) → AllByRecursion Clean (map (λ (text : List ℕ). 88 ∷ text) xs) → AllByRecursion
    IsPiece xs
clean_extensions [] each = tt
clean_extensions (x ∷ xs) each = (
  All-weaker IsClean IsPieceByte (λ b clean. (eqb-false b 32 clean.1, clean.0)) x
      (All-from_recursion IsClean x each.0.1),
  clean_extensions xs each.1,
)

pub read_is_writable : (line : List ℕ) (h : StreamHeader) → IsHeader line h → IsLine line → IsWritable h
read_is_writable line h is ended =
    let parts = subst (AllByRecursion Clean) is.pieces
    (clean_pieces IsNoFeed line (recursion_from_All IsNoFeed line ended)) in
    let extensions = subst (AllByRecursion Clean) is.says.extensions (clean_of_letter 88 is.parameters parts.1) in
    record {
      width = is.size.width.0;
      height = is.size.height.0;
      extensions = All-from_recursion IsPiece h.extensions (clean_extensions h.extensions extensions);
    }
