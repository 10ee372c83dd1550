-- Each pixel processed so far is written twice.
use Rattle.std.proofs.Common.{ℕ, ◌≡◌, ◌*◌, ◌/◌, ◌<◌, slice_get}
use Rattle.v_frame_convert.proofs.rows.chroma.write_twice.Given as goal

abbrev pub invariant-loop-i : goal.invariant-loop-i
invariant-loop-i g l = (k : ℕ) → k < 2 * l.i → slice_get l.row k ≡ slice_get l.source (k / 2)
