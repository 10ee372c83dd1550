-- The samples so far, interleaved, are those that the bytes encode.
use Rattle.std.proofs.Common.{◌*◌, length}
use Rattle.v_frame_semi_planar.specs.SemiPlanar.{shown_pixels}
use Rattle.v_frame_semi_planar.proofs.Interleaving.{ByTurnsBelow}
use Rattle.v_frame_semi_planar.proofs.samples.decode_pairs_of_samples.Given as goal

abbrev pub invariant-loop-i : goal.invariant-loop-i
invariant-loop-i g l =
    ByTurnsBelow l.first l.second (shown_pixels g.T.Pixel.form l.unused (2 * length l.fn.first) l.bytes) l.i
