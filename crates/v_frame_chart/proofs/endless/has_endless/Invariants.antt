-- Whether one of the values so far is infinite.
use Rattle.std.proofs.Common.{◌≡◌, take}
use Rattle.v_frame_chart.specs.Endless.{has_endless}
use Rattle.v_frame_chart.proofs.endless.has_endless.Given as goal

abbrev pub invariant-loop-value : goal.invariant-loop-value
invariant-loop-value l = l.found ≡ has_endless (take l.value-index l.values)
