-- The series so far.
use Rattle.std.proofs.Common.{◌≡◌, take}
use Rattle.v_frame_chart.specs.Room.{least_of, most_of}
use Rattle.v_frame_chart.proofs.room.extent.Given as goal

abbrev pub invariant-loop-one : goal.invariant-loop-one
invariant-loop-one l = record {
  least : l.low ≡ least_of (take l.one-index l.series);
  most : l.high ≡ most_of (take l.one-index l.series);
}
