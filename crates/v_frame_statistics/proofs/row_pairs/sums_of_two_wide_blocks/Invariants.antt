-- The pixels processed so far are summed.
use Rattle.std.proofs.Common.{◌*◌}
use Rattle.std.specs.Prelude.{zip}
use Rattle.v_frame_statistics.proofs.SumSteps.{SummedBefore, HalvesSummedBefore}
use Rattle.v_frame_statistics.proofs.row_pairs.sums_of_two_wide_blocks.Given as goal

abbrev pub invariant-loop-x : goal.invariant-loop-x
invariant-loop-x g l = record {
  first : SummedBefore g.T.Pixel.form.value 65535 l.a l.x l.first;
  second : SummedBefore g.T.Pixel.form.value 65535 l.b l.x l.second;
  first_squares : HalvesSummedBefore (λ p. g.T.Pixel.form.value p * g.T.Pixel.form.value p)
      l.a l.x l.first_low l.first_high;
  second_squares : HalvesSummedBefore (λ p. g.T.Pixel.form.value p * g.T.Pixel.form.value p)
      l.b l.x l.second_low l.second_high;
  products : HalvesSummedBefore (λ pair. g.T.Pixel.form.value pair.0 * g.T.Pixel.form.value pair.1)
      (zip l.a l.b) l.x l.low l.high;
}
