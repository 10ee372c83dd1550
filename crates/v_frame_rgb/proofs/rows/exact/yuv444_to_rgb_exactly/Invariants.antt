-- The rows processed so far are colors, and everything else is unchanged.
use Rattle.v_frame_raster.proofs.tables.StridedWrites.{WrittenBelow}
use Rattle.v_frame_rgb.specs.Exact.{exact_color_rows}
use Rattle.v_frame_rgb.proofs.rows.exact.yuv444_to_rgb_exactly.Given as goal

abbrev pub invariant-loop-k : goal.invariant-loop-k
invariant-loop-k g l = WrittenBelow l.width l.height l.stride
    (exact_color_rows l.matrix.standard l.matrix.range l.matrix.depth g.T.Pixel.form g.O.ColorOrder.bytes_of l.y l.u
    l.v) l.initial.buffer l.buffer l.k
