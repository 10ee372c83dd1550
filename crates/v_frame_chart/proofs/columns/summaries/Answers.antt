-- One more column.
use Rattle.v_frame_chart.specs.Columns.{column_of, summary_of}
use Rattle.v_frame_chart.proofs.Pushed.{pushed}
use Rattle.v_frame_chart.proofs.columns.summaries.Goals as goal

pub loop-k-preserved : goal.loop-k-preserved
loop-k-preserved c =
    pushed (λ k. summary_of (column_of c.args.values.now c.min-columns.result k)) c.loop-k.k _ _ _
    c.in_ok-push.ensures.items c.loop-k.invariant
    (rw (c.start_of-start.ensures.value, c.start_of-end.ensures.value) at c.summarized.ensures)
