-- The rows processed so far are extended, and the others are unchanged.
use Rattle.std.proofs.Common.{◌+◌}
use Rattle.v_frame.specs.Prelude.{raster, table_of}
use Rattle.v_frame_ops.specs.Border.{nearest}
use Rattle.v_frame_ops.proofs.Tables.{MovedBelow}
use Rattle.v_frame_ops.proofs.border.extend_rows.Given as goal

abbrev pub invariant-loop-y : goal.invariant-loop-y
invariant-loop-y g l =
    MovedBelow (λ x. l.left + nearest l.left l.width x) l.whole.width l.top (table_of (raster l.whole l.fn.buffer))
    (table_of (raster l.whole l.buffer)) l.y
