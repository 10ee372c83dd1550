-- The lanes are the means of the pairs.
use Rattle.std.proofs.Common.{◌<◌, ◌∙◌, ap, arith}
use Rattle.std.proofs.lemmas.Grind.{common_steps}
use Rattle.std.proofs.lemmas.List.{take_all}
use Rattle.std.proofs.lemmas.Simd.{Each1-from_get_or}
use Rattle.v_frame.specs.Prelude.{halved, one_byte}
use Rattle.v_frame_convert.proofs.PairMeans.{means_in_lanes}
use Rattle.v_frame_convert.proofs.byte_pairs.means_of_pairs.Goals as goal

pub returns : goal.returns
returns c =
    let bytes = c.args.bytes.now in
    means_in_lanes 16 bytes (omega arith) (Each1-from_get_or (λ b. b < 256) _ 0 (λ k h. (c.type_inv.bytes k).fits))
    ∙ ap (λ xs. halved one_byte xs xs) (take_all 32 bytes (omega arith))

pub overflow_cast-result : goal.overflow_cast-result
overflow_cast-result c = grind (arith, common_steps)
