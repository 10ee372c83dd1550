-- The number of passing positions so far plus the number in the remaining rows is the whole number.
use Rattle.std.proofs.Common.{◌≡◌, ◌+◌, ◌≤◌, ◌*◌, Bool, drop}
use Rattle.v_frame.specs.Prelude.{row_major, width_of}
use Rattle.v_frame_statistics.specs.Count.{SaysAsOfPairs, passing_pairs}
use Rattle.v_frame_statistics.proofs.rows.counts.count_pairs.Given as goal

abbrev pub invariant-loop-y : goal.invariant-loop-y
invariant-loop-y g l = record {
  so_far : (t : g.row.T.Denot → g.row.T.Denot → Bool) → SaysAsOfPairs (goal.F-post g l.test) t
      → l.count + passing_pairs t (row_major (drop l.y l.a)) (row_major (drop l.y l.b))
      ≡ passing_pairs t (row_major l.a) (row_major l.b);
  bound : l.count ≤ l.y * width_of l.a;
}
