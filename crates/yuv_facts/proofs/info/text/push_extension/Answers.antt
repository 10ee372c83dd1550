-- One more character, and all characters.
use Rattle.std.proofs.Common.{◌++◌, ◌∷◌, ◌∙◌, ◌<◌, [], ℕ, ap, append_assoc, arith, if◌then◌else◌, is_ok, subst, sym, take}
use Rattle.std.proofs.Math.ListN.{get_or}
use Rattle.std.proofs.lemmas.List.{take_all}
use Rattle.std.specs.Prelude.{codes, map}
use Rattle.std.specs.String.{string_bytes}
use Rattle.v_frame_y4m.specs.Ascii.{shown_byte}
use Rattle.yuv_reports.proofs.Parts.{mapped_more, three_parts}
use Rattle.yuv_facts.proofs.info.text.push_extension.Goals as goal

-- Each character that is shown is ASCII.
shown_small : (byte : ℕ) → shown_byte byte < 128
shown_small byte = grind arith

pub loop-place-preserved : goal.loop-place-preserved
loop-place-preserved c =
    let bytes = c.args.bytes.now in
    let place = c.loop-place.place in
    let byte = get_or bytes place 0 in
    let start = string_bytes c.push_str.new.self in
    let before = map shown_byte (take place bytes) in
    let one = shown_byte byte ∷ [] in
    let small : c.shown.result < 128 = subst (λ n. n < 128) (sym c.shown.ensures) (shown_small byte) in
    c.in_ok-push.ensures.bytes ∙ ap (λ b. string_bytes c.loop-place.text ++ b) (c.in_ok-push.ensures.ascii small)
    ∙ ap (λ n. string_bytes c.loop-place.text ++ (n ∷ [])) c.shown.ensures
    ∙ ap (λ text. text ++ one) c.loop-place.invariant ∙ append_assoc start before one
    ∙ ap (λ t. start ++ t) (sym (mapped_more shown_byte bytes place 0 c.loop-place-test.true))

pub returns : goal.returns
returns c =
    let bytes = c.args.bytes.now in
    let text = string_bytes c.loop-place.text in
    let shown = ap (λ b. string_bytes c.push_str.new.self ++ map shown_byte b) (take_all c.loop-place.place bytes c.loop-place-test.false) in
    let end = ap (λ e. if is_ok c.push-2.result then text ++ e else text) (c.push-2.ensures.ascii (omega arith)) in
    three_parts c.push-2.result (string_bytes c.args.text.now) (codes "extension: ") (map shown_byte bytes) (10 ∷ [])
    (string_bytes c.push_str.new.self) text (string_bytes c.push-2.new.self) c.in_ok-push_str.ensures.bytes
    (c.loop-place.invariant ∙ shown) (c.push-2.ensures.bytes ∙ end)
