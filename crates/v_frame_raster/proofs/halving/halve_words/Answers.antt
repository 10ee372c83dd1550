-- One more block, and one more pixel.
use Rattle.std.proofs.Common.{◌*◌, arith}
use Rattle.v_frame_raster.specs.Pixel.{two_bytes}
use Rattle.v_frame_raster.proofs.HalfRows.{halved-block_more, halved-one_more}
use Rattle.v_frame_raster.proofs.halving.halve_words.Goals as goal

pub loop-block-preserved : goal.loop-block-preserved
loop-block-preserved c =
    halved-block_more two_bytes 8 c.loop-block.block (16 * c.loop-block.block) c.loop-block.dst
    c.args.top.now c.args.bottom.now c.half_of_words-half.result (omega arith) (omega arith) (omega arith) (omega arith)
    c.half_of_words-half.ensures c.loop-block.invariant

pub loop-i-preserved : goal.loop-i-preserved
loop-i-preserved c =
    halved-one_more two_bytes c.loop-i.i c.loop-i.dst _ _ _ 0 (omega arith) (omega arith) (omega arith)
    c.mean_of_words.ensures c.loop-i.invariant
