-- The finite values so far.
use Rattle.std.proofs.Common.{◌≡◌, take}
use Rattle.std.specs.List.{fold}
use Rattle.v_frame_chart.specs.Columns.{finite, greater, lesser}
use Rattle.v_frame_chart.proofs.room.extended.Given as goal

abbrev pub invariant-loop-value : goal.invariant-loop-value
invariant-loop-value l = record {
  least : l.least ≡ fold lesser l.low (finite (take l.value-index l.values));
  most : l.most ≡ fold greater l.high (finite (take l.value-index l.values));
}
