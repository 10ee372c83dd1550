-- The pixels processed so far are the means of the pairs processed so far.
use Rattle.std.proofs.Common.{◌*◌}
use Rattle.v_frame_raster.proofs.HalfRows.{HalvedUpTo}
use Rattle.v_frame_convert.proofs.byte_pairs.halve_blocks.Given as goal

abbrev pub invariant-loop-block : goal.invariant-loop-block
invariant-loop-block g l = HalvedUpTo g.T.Pixel.form (16 * l.block) l.row l.source l.source
