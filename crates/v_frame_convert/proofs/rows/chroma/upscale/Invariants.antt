-- The rows processed so far are the rows of the expected table, and everything else is unchanged.
use Rattle.v_frame_raster.proofs.tables.StridedWrites.{WrittenBelow}
use Rattle.v_frame_convert.specs.Chroma.{upscaled}
use Rattle.v_frame_convert.proofs.rows.chroma.upscale.Given as goal

abbrev pub invariant-loop-y : goal.invariant-loop-y
invariant-loop-y g l =
    WrittenBelow l.width l.height l.stride (upscaled l.ratio_x l.ratio_y l.width l.height l.source) l.initial.buffer
    l.buffer l.y
