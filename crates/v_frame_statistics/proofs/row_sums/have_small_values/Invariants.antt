-- The number is the smallest upper bound of the values processed so far.
use Rattle.std.proofs.Common.{ℕ, ◌<◌, ◌≤◌, get_or}
use Rattle.v_frame_statistics.proofs.row_sums.have_small_values.Given as goal

abbrev pub invariant-loop-x : goal.invariant-loop-x
invariant-loop-x g l = record {
  bound : (k : ℕ) (d : g.row.T.Denot) → k < l.x → g.T.Pixel.form.value (get_or l.block k d) ≤ l.greatest;
  least : (m : ℕ) → ((k : ℕ) (d : g.row.T.Denot) → k < l.x → g.T.Pixel.form.value (get_or l.block k d) ≤ m)
      → l.greatest ≤ m;
}
