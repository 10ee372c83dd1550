-- The pixels are the minimum and the maximum so far.
use Rattle.std.proofs.Common.{◌≤◌}
use Rattle.v_frame_statistics.proofs.Extremal.{FirstSoFar}
use Rattle.v_frame_statistics.proofs.rows.extremes.extremes_of_row.Given as goal

abbrev pub invariant-loop-x : goal.invariant-loop-x
invariant-loop-x g l = record {
  least : FirstSoFar (λ p q. g.T.Pixel.form.value p ≤ g.T.Pixel.form.value q) l.row l.x l.least;
  greatest : FirstSoFar (λ p q. g.T.Pixel.form.value q ≤ g.T.Pixel.form.value p) l.row l.x l.greatest;
}
