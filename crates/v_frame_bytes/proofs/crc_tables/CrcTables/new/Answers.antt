-- One more entry is computed.
use Rattle.std.proofs.Common.{ℕ, ◌≡◌, ◌+◌, ◌-◌, ◌*◌, ◌/◌, ◌%◌, ◌<◌, length, get_or, sym, ap, ◌∙◌, arith}
use Rattle.std.proofs.Common.{get_or-set_other, get_or-set_same, below_more, ◌≢◌, length-set}
use Rattle.std.specs.Prelude.{bit_xor}
use Rattle.std.specs.Int.Bits.{xor_zero_r}
use Rattle.v_frame_bytes.specs.Crc.{divided, crc_step}
use Rattle.v_frame_bytes.proofs.CrcSteps.{byte_step, divided-add}
use Rattle.v_frame_bytes.proofs.crc_tables.CrcTables.new.Goals as goal

-- Eight more steps for the remainder of a byte.
eight_more : (rest : ℕ) → divided 8 rest ≡ bit_xor (rest / 256) (divided 8 (rest % 256))
unfolding crc_step
eight_more rest =
    ap (divided 8) (sym (xor_zero_r rest)) ∙ byte_step rest 0 (omega arith)
    ∙ ap (λ x. bit_xor (rest / 256) (divided 8 x)) (xor_zero_r (rest % 256))

pub loop-k-preserved : goal.loop-k-preserved
loop-k-preserved c =
    let k = c.loop-k.k in
    let small : k < 256 = omega arith in
    let row : 8 * (k / 256 + 1) ≡ 8 = omega arith in
    let column : k % 256 ≡ k = omega arith in
    let inside : k < length c.loop-k.entries = omega (arith, c.loop-k.invariant.size) in
    record {
      size = length-set c.loop-k.entries k c.eight_steps.result ∙ c.loop-k.invariant.size;
      made =
          below_more _ _
          (λ j h. let other : j ≢ k = omega arith in rw get_or-set_other (c.loop-k.invariant.made j h))
          (rw get_or-set_same
          (c.eight_steps.ensures ∙ ap (λ n. divided n k) (sym row) ∙ ap (divided (8 * (k / 256 + 1))) (sym column)));
    }

pub loop-k-2-preserved : goal.loop-k-2-preserved
loop-k-2-preserved c =
    let k = c.loop-k-2.k in
    let entries = c.loop-k-2.entries in
    let before = get_or entries (k - 256) 0 in
    let inside : k < length entries = omega (arith, c.loop-k-2.invariant.size) in
    let row : 8 * ((k - 256) / 256 + 1) + 8 ≡ 8 * (k / 256 + 1) = omega arith in
    let column : (k - 256) % 256 ≡ k % 256 = omega arith in
    let had = c.loop-k-2.invariant.made (k - 256) (omega arith) in
    let low : get_or entries (before % 256) 0 ≡ divided 8 (before % 256) =
    c.loop-k-2.invariant.made (before % 256) (omega arith)
    ∙ ap (λ n. divided n (before % 256 % 256)) (omega arith) ∙ ap (divided 8) (omega arith) in
    record {
      size = length-set entries k _ ∙ c.loop-k-2.invariant.size;
      made =
          below_more _ _
          (λ j h. let other : j ≢ k = omega arith in rw get_or-set_other (c.loop-k-2.invariant.made j h))
          (rw get_or-set_same (
          ap (bit_xor (before / 256)) low ∙ sym (eight_more before) ∙ ap (divided 8) had
          ∙ divided-add (8 * ((k - 256) / 256 + 1)) 8 ((k - 256) % 256)
          ∙ ap (λ n. divided n ((k - 256) % 256)) row
          ∙ ap (divided (8 * (k / 256 + 1))) column
          ));
    }
