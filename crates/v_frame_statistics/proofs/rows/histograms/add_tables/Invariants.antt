-- The counts processed so far are added, and the others are unchanged.
use Rattle.std.proofs.Common.{ℕ, ◌≡◌, ◌+◌, ◌<◌, ◌≤◌, get_or}
use Rattle.v_frame_statistics.proofs.rows.histograms.add_tables.Given as goal

abbrev pub invariant-loop-v : goal.invariant-loop-v
invariant-loop-v l = record {
  added : (v : ℕ) → v < l.v → get_or l.table v 0 ≡ get_or l.initial.table v 0 + get_or l.other v 0;
  others : (v : ℕ) → l.v ≤ v → v < 256 → get_or l.table v 0 ≡ get_or l.initial.table v 0;
}
