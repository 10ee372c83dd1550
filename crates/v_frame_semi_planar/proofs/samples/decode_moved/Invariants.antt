-- The samples so far are those that the bytes encode.
use Rattle.std.proofs.Common.{ℕ, ◌≡◌, ◌<◌, length, slice_get}
use Rattle.v_frame_semi_planar.specs.SemiPlanar.{shown_pixels}
use Rattle.v_frame_semi_planar.proofs.samples.decode_moved.Given as goal

abbrev pub invariant-loop-i : goal.invariant-loop-i
invariant-loop-i g l =
    (k : ℕ) → k < l.i
    → slice_get l.row k ≡ slice_get (shown_pixels g.T.Pixel.form l.unused (length l.fn.row) l.bytes) k
