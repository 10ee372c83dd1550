-- The rows processed so far are copies, and the others are unchanged.
use Rattle.v_frame.specs.Prelude.{raster, table_of}
use Rattle.v_frame_ops.proofs.Changed.{CopiedBelow}
use Rattle.v_frame_ops.proofs.border.repeat_row_up.Given as goal

abbrev pub invariant-loop-y : goal.invariant-loop-y
invariant-loop-y g l = CopiedBelow 0 l.from (table_of (raster l.whole l.fn.buffer))
    (table_of (raster l.whole l.buffer)) l.y
