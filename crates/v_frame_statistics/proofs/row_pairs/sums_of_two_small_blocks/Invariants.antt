-- The pixels processed so far are summed.
use Rattle.std.proofs.Common.{◌*◌}
use Rattle.std.specs.Prelude.{zip}
use Rattle.v_frame_statistics.proofs.SumSteps.{SummedBefore}
use Rattle.v_frame_statistics.proofs.row_pairs.sums_of_two_small_blocks.Given as goal

abbrev pub invariant-loop-x : goal.invariant-loop-x
invariant-loop-x g l = record {
  first : SummedBefore g.T.Pixel.form.value 1023 l.a l.x l.first;
  second : SummedBefore g.T.Pixel.form.value 1023 l.b l.x l.second;
  first_squares : SummedBefore (λ p. g.T.Pixel.form.value p * g.T.Pixel.form.value p) 1046529
      l.a l.x l.first_squares;
  second_squares : SummedBefore (λ p. g.T.Pixel.form.value p * g.T.Pixel.form.value p) 1046529
      l.b l.x l.second_squares;
  products : SummedBefore (λ pair. g.T.Pixel.form.value pair.0 * g.T.Pixel.form.value pair.1) 1046529
      (zip l.a l.b) l.x l.products;
}
