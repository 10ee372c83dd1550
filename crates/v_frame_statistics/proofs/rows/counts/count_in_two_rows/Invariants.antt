-- The pairs of the blocks processed so far are counted.
use Rattle.std.proofs.Common.{◌≡◌, ◌≤◌, ◌*◌, Bool, count_by, take}
use Rattle.std.specs.Prelude.{zip}
use Rattle.v_frame_statistics.specs.Count.{SaysAsOfPairs}
use Rattle.v_frame_statistics.proofs.rows.counts.count_in_two_rows.Given as goal

abbrev pub invariant-loop-block : goal.invariant-loop-block
invariant-loop-block g l = record {
  so_far : (t : g.row.T.Denot → g.row.T.Denot → Bool) → SaysAsOfPairs (goal.F-post g l.test) t
      → l.count ≡ count_by (λ pair. t pair.0 pair.1) (take (128 * l.block) (zip l.row l.other));
  bound : l.count ≤ 128 * l.block;
}
