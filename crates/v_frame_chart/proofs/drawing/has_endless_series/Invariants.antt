-- Whether one of the series so far has an infinite value.
use Rattle.std.proofs.Common.{◌≡◌, take}
use Rattle.v_frame_chart.specs.Charts.{has_endless_series}
use Rattle.v_frame_chart.proofs.drawing.has_endless_series.Given as goal

abbrev pub invariant-loop-one : goal.invariant-loop-one
invariant-loop-one l = l.found ≡ has_endless_series (take l.one-index l.series)
