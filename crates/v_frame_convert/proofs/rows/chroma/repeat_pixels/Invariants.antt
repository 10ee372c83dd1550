-- The pixels processed so far are the source pixels at the columns divided by the ratio.
use Rattle.std.proofs.Common.{ℕ, ◌≡◌, ◌/◌, ◌<◌, slice_get}
use Rattle.v_frame_convert.proofs.rows.chroma.repeat_pixels.Given as goal

abbrev pub invariant-loop-x : goal.invariant-loop-x
invariant-loop-x g l = (k : ℕ) → k < l.x → slice_get l.row k ≡ slice_get l.source (k / l.ratio)
