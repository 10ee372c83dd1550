-- The rows processed so far are copies, and the others are unchanged.
use Rattle.std.proofs.Common.{◌-◌}
use Rattle.v_frame.specs.Prelude.{raster, table_of}
use Rattle.v_frame_ops.proofs.Changed.{CopiedBelow}
use Rattle.v_frame_ops.proofs.border.repeat_row_down.Given as goal

abbrev pub invariant-loop-y : goal.invariant-loop-y
invariant-loop-y g l = CopiedBelow l.end (l.end - 1) (table_of (raster l.whole l.fn.buffer))
    (table_of (raster l.whole l.buffer)) l.y
