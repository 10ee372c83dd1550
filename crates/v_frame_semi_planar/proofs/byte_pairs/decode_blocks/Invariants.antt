-- The pixels so far, interleaved, are those of the bytes.
use Rattle.std.proofs.Common.{◌*◌, length}
use Rattle.v_frame_semi_planar.specs.SemiPlanar.{shown_pixels}
use Rattle.v_frame_semi_planar.proofs.Interleaving.{FirstApart}
use Rattle.v_frame_semi_planar.proofs.byte_pairs.decode_blocks.Given as goal

abbrev pub invariant-loop-block : goal.invariant-loop-block
invariant-loop-block g l =
    FirstApart (shown_pixels g.T.Pixel.form 0 (2 * length l.fn.first) l.bytes) l.first l.second (16 * l.block)
