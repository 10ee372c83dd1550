-- One more value.
use Rattle.v_frame_chart.specs.Endless.{is_endless}
use Rattle.v_frame_chart.proofs.Appended.{any_more}
use Rattle.v_frame_chart.proofs.endless.has_endless.Goals as goal

pub loop-value-preserved : goal.loop-value-preserved
loop-value-preserved c = any_more is_endless c.args.values.now c.loop-value.value-index _ _ _ _ c.loop-value-test.true
    c.either-found.ensures c.loop-value.invariant c.is_endless.ensures
