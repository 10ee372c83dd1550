-- The rows processed so far are colors, and everything else is unchanged.
use Rattle.v_frame_raster.proofs.tables.StridedWrites.{WrittenBelow}
use Rattle.v_frame_rgb.specs.Colors.{color_rows}
use Rattle.v_frame_rgb.proofs.rows.decode.yuv444_to_rgb.Given as goal

abbrev pub invariant-loop-k : goal.invariant-loop-k
invariant-loop-k g l = WrittenBelow l.width l.height l.stride
    (color_rows l.matrix g.O.ColorOrder.bytes_of l.y l.u l.v) l.initial.buffer l.buffer l.k
