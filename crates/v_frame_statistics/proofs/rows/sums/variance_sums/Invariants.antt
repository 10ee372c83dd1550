-- The rows processed so far are summed.
use Rattle.std.proofs.Common.{◌*◌}
use Rattle.v_frame_statistics.proofs.SumSteps.{SummedAbove}
use Rattle.v_frame_statistics.proofs.rows.sums.variance_sums.Given as goal

abbrev pub invariant-loop-y : goal.invariant-loop-y
invariant-loop-y g l = record {
  values : SummedAbove g.T.Pixel.form.value 65536 l.rows l.y l.sum;
  squares : SummedAbove (λ p. g.T.Pixel.form.value p * g.T.Pixel.form.value p) 4294967296 l.rows l.y l.sum_of_squares;
}
