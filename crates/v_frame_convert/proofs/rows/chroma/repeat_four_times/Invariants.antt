-- Each pixel processed so far is written four times.
use Rattle.std.proofs.Common.{ℕ, ◌≡◌, ◌*◌, ◌/◌, ◌<◌, slice_get}
use Rattle.v_frame_convert.proofs.rows.chroma.repeat_four_times.Given as goal

abbrev pub invariant-loop-i : goal.invariant-loop-i
invariant-loop-i g l = (k : ℕ) → k < 4 * l.i → slice_get l.row k ≡ slice_get l.source (k / 4)

abbrev pub invariant-loop-x : goal.invariant-loop-x
invariant-loop-x g l = (k : ℕ) → k < l.x → slice_get l.row k ≡ slice_get l.source (k / 4)
