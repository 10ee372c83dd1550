-- The power so far.
use Rattle.std.proofs.Common.{◌≡◌}
use Rattle.v_frame_chart.specs.Scales.{ten_power}
use Rattle.v_frame_chart.proofs.ticks.power_of_ten.Given as goal

abbrev pub invariant-loop-i : goal.invariant-loop-i
invariant-loop-i l = l.power ≡ ten_power l._i
