-- The pixels of the blocks processed so far are counted.
use Rattle.std.proofs.Common.{◌≡◌, ◌≤◌, ◌*◌, Bool, count_by, take}
use Rattle.v_frame_statistics.specs.Count.{SaysAs}
use Rattle.v_frame_statistics.proofs.rows.counts.count_in_row.Given as goal

abbrev pub invariant-loop-block : goal.invariant-loop-block
invariant-loop-block g l = record {
  so_far : (t : g.row.T.Denot → Bool) → SaysAs (goal.F-post g l.test) t
      → l.count ≡ count_by t (take (128 * l.block) l.row);
  bound : l.count ≤ 128 * l.block;
}
