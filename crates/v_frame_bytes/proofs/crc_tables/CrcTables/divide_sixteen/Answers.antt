-- The remainder of the first half is added to that of the second.
use Rattle.std.proofs.Common.{◌≡◌, ◌++◌, ◌*◌, length, sym, ap, ◌∙◌, arith, take-append-drop}
use Rattle.std.specs.Prelude.{bit_xor, fold}
use Rattle.std.specs.Int.Bits.{xor_zero_r}
use Rattle.std.proofs.lemmas.List.Sums.{fold-append}
use Rattle.v_frame_bytes.specs.Crc.{crc_step, divided}
use Rattle.v_frame_bytes.proofs.CrcSteps.{fold-xor}
use Rattle.v_frame_bytes.proofs.crc_tables.CrcTables.divide_sixteen.Goals as goal

pub returns : goal.returns
unfolding divided
returns c =
    let rest = c.args.rest in
    let first = c.split_at.result.0.now in
    let second = c.split_at.result.1.now in
    let whole : first ++ second ≡ c.args.bytes.now =
    rw (c.split_at.ensures.front, c.split_at.ensures.back) (take-append-drop 8 c.args.bytes.now) in
    let left = fold crc_step rest first in
    let steps : 8 * length second ≡ 64 = omega (arith, c.split_at.ensures.back_len) in
    ap (λ x. bit_xor x c.divide_eight-others.result) c.divide_eight.ensures
    ∙ ap (bit_xor (divided 64 left)) c.divide_eight-others.ensures
    ∙ ap (λ n. bit_xor (divided n left) (fold crc_step 0 second)) (sym steps)
    ∙ sym (fold-xor second left 0)
    ∙ ap (λ x. fold crc_step x second) (xor_zero_r left)
    ∙ sym (fold-append crc_step rest first second)
    ∙ ap (fold crc_step rest) whole
