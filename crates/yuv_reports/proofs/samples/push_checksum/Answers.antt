-- One more digit, and the complete checksum.
use Rattle.std.proofs.Common.{◌++◌, ◌∷◌, ◌∙◌, [], ap, append_assoc, arith, sym, take, ◌≡◌}
use Rattle.std.proofs.Math.ListN.{get_or}
use Rattle.std.specs.Prelude.{map}
use Rattle.std.specs.String.{string_bytes}
use Rattle.yuv_reports.specs.Samples.{digit_at, places}
use Rattle.yuv_reports.proofs.Parts.{mapped_more}
use Rattle.yuv_reports.proofs.samples.push_checksum.Goals as goal

pub loop-place-preserved : goal.loop-place-preserved
loop-place-preserved c =
    let digit = digit_at c.args.sum in
    let place = c.loop-place.place in
    let start = string_bytes c.push.new.self in
    let before = map digit (take place places) in
    let one = digit (get_or places place 0) ∷ [] in
    c.in_ok-push_digit.ensures ∙ ap (λ text. text ++ one) c.loop-place.invariant ∙ append_assoc start before one
    ∙ ap (λ digits. start ++ digits) (sym (mapped_more digit places place 0 (omega arith)))

pub returns : goal.returns
returns c =
    let place : c.loop-place.place ≡ 8 = omega arith in
    let start = string_bytes c.args.text.now in
    c.loop-place.invariant ∙ ap (λ text. text ++ map (digit_at c.args.sum) (take c.loop-place.place places)) (c.in_ok-push.ensures.bytes ∙ ap (λ b. start ++ b) (c.in_ok-push.ensures.ascii (omega arith)))
    ∙ append_assoc start (32 ∷ []) (map (digit_at c.args.sum) (take c.loop-place.place places))
    ∙ ap (λ n. start ++ (32 ∷ map (digit_at c.args.sum) (take n places))) place
