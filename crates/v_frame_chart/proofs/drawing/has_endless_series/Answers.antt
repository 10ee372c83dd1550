-- One more series.
use Rattle.v_frame_chart.specs.Endless.{has_endless}
use Rattle.v_frame_chart.specs.declared.drawing.Series.{Series}
use Rattle.v_frame_chart.proofs.Appended.{any_more, no_series}
use Rattle.v_frame_chart.proofs.drawing.has_endless_series.Goals as goal

pub loop-one-preserved : goal.loop-one-preserved
loop-one-preserved c = any_more (λ (one : Series). has_endless one.values.now) c.args.series.now c.loop-one.one-index
    no_series _ _ _ c.loop-one-test.true c.either-found.ensures c.loop-one.invariant c.has_endless.ensures
