-- The finite values so far are summarized.
use Rattle.std.proofs.Common.{◌≡◌, ◌≤◌, take, length, true, false}
use Rattle.std.specs.List.{fold}
use Rattle.std.specs.Float.Ieee.{inf}
use Rattle.v_frame_chart.specs.Columns.{finite, greater, lesser, total}
use Rattle.v_frame_chart.proofs.columns.summarized.Given as goal

abbrev pub invariant-loop-value : goal.invariant-loop-value
invariant-loop-value l = record {
  least : l.least ≡ fold lesser (inf false) (finite (take l.value-index l.values));
  most : l.most ≡ fold greater (inf true) (finite (take l.value-index l.values));
  sum : l.sum ≡ total (finite (take l.value-index l.values));
  count : l.count ≡ length (finite (take l.value-index l.values));
  few : l.count ≤ l.value-index;
}
