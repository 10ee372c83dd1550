-- The pixels so far are the halves of the fronts so far.
use Rattle.std.proofs.Common.{◌*◌}
use Rattle.v_frame_raster.specs.Pixel.{two_bytes}
use Rattle.v_frame_raster.proofs.HalfRows.{HalvedUpTo}
use Rattle.v_frame_raster.proofs.halving.halve_words.Given as goal

abbrev pub invariant-loop-block : goal.invariant-loop-block
invariant-loop-block l = HalvedUpTo two_bytes (8 * l.block) l.dst l.top l.bottom

abbrev pub invariant-loop-i : goal.invariant-loop-i
invariant-loop-i l = HalvedUpTo two_bytes l.i l.dst l.top l.bottom
