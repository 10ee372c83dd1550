-- The bytes of the first samples of both rows are at the front.
use Rattle.std.proofs.Common.{◌≡◌, ◌*◌, take}
use Rattle.v_frame_semi_planar.specs.Interleaved.{interleaved}
use Rattle.v_frame_semi_planar.specs.SemiPlanar.{stored_bytes}
use Rattle.v_frame_semi_planar.proofs.samples.encode_pairs.Given as goal

abbrev pub invariant-loop-i : goal.invariant-loop-i
invariant-loop-i g l =
    take (2 * g.T.Pixel.BYTES * l.i) l.bytes
    ≡ stored_bytes g.T.Pixel.form l.unused (interleaved (take l.i l.first) (take l.i l.second))
