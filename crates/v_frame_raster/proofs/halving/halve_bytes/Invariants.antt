-- The pixels so far are the halves of the fronts so far.
use Rattle.std.proofs.Common.{◌*◌}
use Rattle.v_frame_raster.specs.Pixel.{one_byte}
use Rattle.v_frame_raster.proofs.HalfRows.{HalvedUpTo}
use Rattle.v_frame_raster.proofs.halving.halve_bytes.Given as goal

abbrev pub invariant-loop-block : goal.invariant-loop-block
invariant-loop-block l = HalvedUpTo one_byte (16 * l.block) l.dst l.top l.bottom

abbrev pub invariant-loop-i : goal.invariant-loop-i
invariant-loop-i l = HalvedUpTo one_byte l.i l.dst l.top l.bottom
