-- The rows processed so far are summed.
use Rattle.std.proofs.Common.{◌*◌}
use Rattle.v_frame_statistics.proofs.PairSteps.{PairsSummedAbove}
use Rattle.v_frame_statistics.proofs.SumSteps.{SummedAbove}
use Rattle.v_frame_statistics.proofs.rows.pairs.pair_sums.Given as goal

abbrev pub invariant-loop-y : goal.invariant-loop-y
invariant-loop-y g l = record {
  first : SummedAbove g.T.Pixel.form.value 4294967296 l.a l.y l.first;
  second : SummedAbove g.T.Pixel.form.value 4294967296 l.b l.y l.second;
  first_squares : SummedAbove (λ p. g.T.Pixel.form.value p * g.T.Pixel.form.value p) 4294967296
      l.a l.y l.first_squares;
  second_squares : SummedAbove (λ p. g.T.Pixel.form.value p * g.T.Pixel.form.value p) 4294967296
      l.b l.y l.second_squares;
  products : PairsSummedAbove (λ pair. g.T.Pixel.form.value pair.0 * g.T.Pixel.form.value pair.1) 4294967296
      l.a l.b l.y l.products;
}
