-- The pixels so far are decoded from the bytes so far.
use Rattle.std.proofs.Common.{◌*◌}
use Rattle.v_frame_raster.proofs.Decoding.{DecodedUpTo}
use Rattle.v_frame_raster.proofs.pixel.U16Pixel.decode_row.Given as goal

abbrev pub invariant-loop-block : goal.invariant-loop-block
invariant-loop-block l = DecodedUpTo (16 * l.block) l.dst l.src

abbrev pub invariant-loop-i : goal.invariant-loop-i
invariant-loop-i l = DecodedUpTo l.i l.dst l.src
