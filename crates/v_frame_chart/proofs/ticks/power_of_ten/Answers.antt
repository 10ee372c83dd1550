-- One more factor.
use Rattle.std.proofs.Common.{ap, ◌∙◌, add-one}
use Rattle.std.specs.Float.Ieee.{Float, binary64, mul}
use Rattle.v_frame_chart.specs.Scales.{ten_power}
use Rattle.v_frame_chart.proofs.Floats.{one, ten}
use Rattle.v_frame_chart.proofs.ticks.power_of_ten.Goals as goal

pub loop-i-init : goal.loop-i-init
unfolding ten_power
loop-i-init c = one

pub loop-i-preserved : goal.loop-i-preserved
unfolding ten_power
loop-i-preserved c =
    rw add-one (ap (λ (x : Float). mul binary64 x _) c.loop-i.invariant
    ∙ ap (λ (x : Float). mul binary64 (ten_power c.loop-i._i) x) ten)
