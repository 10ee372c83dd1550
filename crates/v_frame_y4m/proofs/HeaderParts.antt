-- A line that begins like a header, and the contents of its parameters.
use Rattle.std.proofs.Common.{ℕ, ◌≡◌, ◌<◌, ◌-◌, List, [], ◌∷◌, drop, get_or, length, length-drop, take, take_all, sym}
use Rattle.std.proofs.Common.{◌∙◌, ap, arith}
use mathlib.Core.Logic.{inr}
use Rattle.std.specs.Prelude.{Result, Ok, Err, IfOk, IfErr}
use denote.Ref.{Bor}
use Rattle.v_frame_y4m.specs.Faults.{HasFault, IsRefusedFor}
use Rattle.v_frame_y4m.specs.Header.{pieces, signature, texts_of, HasSize, IsHeader, Says}
use Rattle.v_frame_y4m.specs.declared.error.HeaderError.{HeaderError}
use Rattle.v_frame_y4m.specs.declared.header.StreamHeader.{StreamHeader}

pub pieces_begin : (line : List ℕ) (items : List (Bor (List ℕ))) (w : Bor (List ℕ)) → texts_of items ≡ pieces line → 0
    < length items
    → (get_or items 0 w).now ≡ signature → pieces line ≡ signature ∷ texts_of (drop 1 items)
pieces_begin line [] w are some is = absurd (omega (arith, some))
pieces_begin line (x ∷ xs) w are some is = sym are ∙ ap (λ (first : List ℕ). first ∷ texts_of xs) is

rest_of : (l : List (Bor (List ℕ))) → take (length l - 1) (drop 1 l) ≡ drop 1 l
rest_of l = take_all (length l - 1) (drop 1 l) (omega (arith, length-drop 1 l))

pub pieces_begin_part : (line : List ℕ) (items part : List (Bor (List ℕ))) (w : Bor (List ℕ)) → texts_of items ≡ pieces
    line → 0 < length items
    → (get_or items 0 w).now ≡ signature → part ≡ items → pieces line ≡ signature ∷ texts_of
    (take (length part - 1) (drop 1 part))
pieces_begin_part line items part w are some is same =
    pieces_begin line items w are some is ∙ ap (λ (ps : List (Bor (List ℕ))). signature ∷ texts_of ps)
    (sym (rest_of part ∙ ap (drop 1) same))

module _ (line : List ℕ) (parameters : List (List ℕ)) (begins : pieces line ≡ signature ∷ parameters) where
  pub header_found : (r : Result StreamHeader HeaderError) → IfOk r (Says parameters) → IfOk r HasSize → IfOk r
      (IsHeader line)
  header_found (Ok h) says size = record { parameters = parameters; pieces = begins; says = says; size = size }
  header_found (Err e) says size = tt

  pub header_refused : (r : Result StreamHeader HeaderError) → IfErr r (HasFault parameters) → IfErr r
      (IsRefusedFor line)
  header_refused (Ok h) fault = tt
  header_refused (Err e) fault = inr (inr (parameters, begins, fault))
