-- The loop step: one more row.
use Rattle.v_frame_statistics.proofs.Extremal.{by_greatest, first_of_more_rows}
use Rattle.v_frame_statistics.proofs.rows.extremes.maximum.Goals as goal

pub loop-y-preserved : goal.loop-y-preserved
loop-y-preserved g c =
    first_of_more_rows (by_greatest g.T.Pixel.form.value) c.args.rows.now c.loop-y.y _
    c.visible_row-in-loop-y.ensures.value _ _ _
    c.loop-y.invariant c.greatest_of_row.ensures c.greater-greatest.ensures
