-- The rows processed so far are summed.
use Rattle.v_frame_statistics.proofs.SumSteps.{SummedAbove}
use Rattle.v_frame_statistics.proofs.rows.sums.sum.Given as goal

abbrev pub invariant-loop-y : goal.invariant-loop-y
invariant-loop-y g l = SummedAbove g.T.Pixel.form.value 65536 l.rows l.y l.sum
