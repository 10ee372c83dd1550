-- The loop step: one more row.
use Rattle.std.proofs.Common.{length}
use Rattle.v_frame_statistics.proofs.HistogramSteps.{row_counted}
use Rattle.v_frame_statistics.proofs.rows.histograms.histogram_into.Goals as goal

pub loop-y-preserved : goal.loop-y-preserved
loop-y-preserved c =
    rw (c.count_words.auto.counts) (row_counted (length c.loop-y.counts) c.args.rows.now c.loop-y.y _ _
    c.loop-y.invariant _ c.visible_row.ensures.value c.visible_row.ensures.wide c.count_words.ensures)
