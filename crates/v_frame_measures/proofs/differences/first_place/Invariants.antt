-- No index processed so far has the difference.
use Rattle.std.proofs.Common.{ℕ, ◌<◌}
use Rattle.v_frame_measures.specs.Differences.{DifferAt}
use Rattle.v_frame_measures.proofs.differences.first_place.Given as goal

abbrev pub invariant-loop-x : goal.invariant-loop-x
invariant-loop-x g l = (i : ℕ) → i < l.x → ¬ DifferAt g.T.Pixel.form.value l.row l.other l.difference i
