-- The loop step: one more row.
use Rattle.v_frame_statistics.proofs.SumSteps.{row_summed}
use Rattle.v_frame_statistics.proofs.rows.sums.sum.Goals as goal

pub loop-y-preserved : goal.loop-y-preserved
loop-y-preserved g c =
    row_summed _ 65536 c.args.rows.now c.loop-y.y c.loop-y.sum _ _ c.loop-y.invariant c.visible_row.ensures.value
    c.visible_row.ensures.wide c.values_of_row-sum.ensures.value c.values_of_row-sum.ensures.bound
