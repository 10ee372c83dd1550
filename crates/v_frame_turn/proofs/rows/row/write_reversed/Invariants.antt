-- The pixels processed so far are the pixels of the source, counted from its right end.
use Rattle.std.proofs.Common.{ℕ, ◌≡◌, ◌-◌, ◌<◌, slice_get}
use Rattle.v_frame_turn.proofs.rows.row.write_reversed.Given as goal

abbrev pub invariant-loop-x : goal.invariant-loop-x
invariant-loop-x g l = (k : ℕ) → k < l.x → slice_get l.target k ≡ slice_get l.source (l.width - 1 - k)
