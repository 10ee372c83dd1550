-- The number of passing pixels so far plus the number in the remaining rows is the whole number.
use Rattle.std.proofs.Common.{◌≡◌, ◌+◌, ◌≤◌, ◌*◌, Bool, count_by, drop}
use Rattle.v_frame.specs.Prelude.{row_major, width_of}
use Rattle.v_frame_statistics.specs.Count.{SaysAs}
use Rattle.v_frame_statistics.proofs.rows.counts.count_pixels.Given as goal

abbrev pub invariant-loop-y : goal.invariant-loop-y
invariant-loop-y g l = record {
  so_far : (t : g.row.T.Denot → Bool) → SaysAs (goal.F-post g l.test) t
      → l.count + count_by t (row_major (drop l.y l.rows)) ≡ count_by t (row_major l.rows);
  bound : l.count ≤ l.y * width_of l.rows;
}
