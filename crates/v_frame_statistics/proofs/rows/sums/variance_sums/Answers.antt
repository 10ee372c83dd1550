-- The loop step: one more row.
use Rattle.v_frame_statistics.proofs.SumSteps.{row_summed}
use Rattle.v_frame_statistics.proofs.rows.sums.variance_sums.Goals as goal

pub loop-y-preserved : goal.loop-y-preserved
loop-y-preserved g c =
    let row = c.visible_row.ensures in let here = c.sums_of_row-here.ensures in record {
      values =
          row_summed _ 65536 c.args.rows.now c.loop-y.y c.loop-y.sum _ _ c.loop-y.invariant.values row.value row.wide
          here.value.values here.bound.values;
      squares =
          row_summed _ 4294967296 c.args.rows.now c.loop-y.y c.loop-y.sum_of_squares _ _ c.loop-y.invariant.squares
          row.value row.wide here.value.squares here.bound.squares;
    }
