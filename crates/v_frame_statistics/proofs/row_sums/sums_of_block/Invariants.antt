-- The pixels processed so far are summed.
use Rattle.std.proofs.Common.{◌*◌}
use Rattle.v_frame_statistics.proofs.SumSteps.{SummedBefore, HalvesSummedBefore}
use Rattle.v_frame_statistics.proofs.row_sums.sums_of_block.Given as goal

abbrev pub invariant-loop-x : goal.invariant-loop-x
invariant-loop-x g l = record {
  values : SummedBefore g.T.Pixel.form.value 65535 l.block l.x l.values;
  squares : HalvesSummedBefore (λ p. g.T.Pixel.form.value p * g.T.Pixel.form.value p) l.block l.x l.low l.high;
}
