-- The pixels processed so far are counted.
use Rattle.std.proofs.Common.{◌≡◌, ◌≤◌, Bool, count_by, take}
use Rattle.v_frame_statistics.specs.Count.{SaysAs}
use Rattle.v_frame_statistics.proofs.rows.counts.count_in_block.Given as goal

abbrev pub invariant-loop-i : goal.invariant-loop-i
invariant-loop-i g l = record {
  so_far : (t : g.row.T.Denot → Bool) → SaysAs (goal.F-post g l.test) t → l.count ≡ count_by t (take l.i l.block);
  bound : l.count ≤ l.i;
}
