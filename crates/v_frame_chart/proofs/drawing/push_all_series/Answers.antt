-- One more series.
use Rattle.std.proofs.Common.{arith}
use Rattle.v_frame_chart.specs.Charts.{series_text}
use Rattle.v_frame_chart.proofs.Appended.{entries_more, no_series}
use Rattle.v_frame_chart.proofs.drawing.push_all_series.Goals as goal

pub loop-k-preserved : goal.loop-k-preserved
loop-k-preserved c =
    entries_more (series_text c.args.scale.now c.args.span) c.args.series.now c.loop-k.k no_series _ _ _
    (omega arith) (c.in_ok-push_series.ensures {u = tt}) c.loop-k.invariant
