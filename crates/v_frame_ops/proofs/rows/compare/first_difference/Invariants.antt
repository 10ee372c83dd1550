-- The pixels of the rows processed so far are equal.
use Rattle.std.proofs.Common.{ℕ, ◌≡◌, ◌<◌}
use Rattle.v_frame.specs.Prelude.{pixel_at}
use Rattle.v_frame_ops.proofs.rows.compare.first_difference.Given as goal

abbrev pub invariant-loop-y : goal.invariant-loop-y
invariant-loop-y g l = (i j : ℕ) → j < l.y → pixel_at l.a i j ≡ pixel_at l.b i j
