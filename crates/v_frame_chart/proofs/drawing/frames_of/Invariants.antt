-- The length of the longest series so far.
use Rattle.std.proofs.Common.{◌≡◌, ◌<◌, ◌^◌, take}
use Rattle.v_frame_chart.specs.Charts.{frames_of}
use Rattle.v_frame_chart.proofs.drawing.frames_of.Given as goal

abbrev pub invariant-loop-one : goal.invariant-loop-one
invariant-loop-one l = record {
  longest : l.frames ≡ frames_of (take l.one-index l.series);
  bound : l.frames < 2 ^ 63;
}
