-- One more extension, and all extensions.
use Rattle.std.proofs.Common.{◌≡◌, ◌++◌, ◌+◌, ◌∷◌, ◌∙◌, ◌<◌, [], ℕ, List, ap, append_assoc, length, sym, take}
use Rattle.std.proofs.Math.ListN.{get_or}
use Rattle.std.proofs.lemmas.Grind.{flat_map-append}
use Rattle.std.proofs.lemmas.List.{append-nil, take_all, take_more}
use Rattle.std.specs.Prelude.{flat_map}
use Rattle.std.specs.String.{string_bytes}
use Rattle.yuv_facts.specs.Facts.{extension_fact}
use Rattle.yuv_facts.proofs.info.text.push_extensions.Goals as goal

one_more : (f : List ℕ → List ℕ) (xs : List (List ℕ)) (i : ℕ) (d : List ℕ) → i < length xs
    → flat_map f (take (i + 1) xs) ≡ flat_map f (take i xs) ++ f (get_or xs i d)
one_more f xs i d within =
    ap (flat_map f) (take_more xs i d within) ∙ flat_map-append f (take i xs) (get_or xs i d ∷ [])
    ∙ ap (λ t. flat_map f (take i xs) ++ t) (append-nil (f (get_or xs i d)))

pub loop-place-preserved : goal.loop-place-preserved
loop-place-preserved c =
    let all = c.as_slice-extensions.result.now in
    let place = c.loop-place.place in
    let one = c.index-extensions-place.result in
    let start = string_bytes c.args.text.now in
    let before = flat_map extension_fact (take place all) in
    let said = extension_fact (get_or all place one) in
    c.in_ok-push_extension.ensures
    ∙ ap (λ e. string_bytes c.loop-place.text ++ extension_fact e) (c.as_slice.ensures ∙ c.index-extensions-place.is)
    ∙ ap (λ text. text ++ said) c.loop-place.invariant ∙ append_assoc start before said
    ∙ ap (λ t. start ++ t) (sym (one_more extension_fact all place one c.loop-place-test.true))

pub returns : goal.returns
returns c =
    let all = c.as_slice-extensions.result.now in
    let start = string_bytes c.args.text.now in
    c.loop-place.invariant
    ∙ ap (λ e. start ++ flat_map extension_fact e)
    (take_all c.loop-place.place all c.loop-place-test.false ∙ c.as_slice-extensions.ensures)
