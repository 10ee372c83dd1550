-- The bytes of the first samples are at the front.
use Rattle.std.proofs.Common.{◌≡◌, ◌*◌, take}
use Rattle.v_frame_semi_planar.specs.SemiPlanar.{stored_bytes}
use Rattle.v_frame_semi_planar.proofs.samples.encode_moved.Given as goal

abbrev pub invariant-loop-i : goal.invariant-loop-i
invariant-loop-i g l = take (g.T.Pixel.BYTES * l.i) l.bytes ≡ stored_bytes g.T.Pixel.form l.unused (take l.i l.row)
