-- The rows processed so far are filled, and everything else is unchanged.
use Rattle.std.proofs.Common.{replicate}
use Rattle.v_frame_raster.proofs.tables.StridedWrites.{WrittenBelow}
use Rattle.v_frame_ops.proofs.rows.change.fill.Given as goal

abbrev pub invariant-loop-y : goal.invariant-loop-y
invariant-loop-y g l = WrittenBelow l.width l.height l.stride (replicate l.height (replicate l.width l.pixel))
    l.initial.buffer l.buffer l.y
