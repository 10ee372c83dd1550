-- In each channel, the rows processed so far are samples, and everything else is unchanged.
use Rattle.v_frame_raster.proofs.tables.StridedWrites.{WrittenBelow}
use Rattle.v_frame_rgb.specs.Colors.{sample_rows, y_of, u_of, v_of}
use Rattle.v_frame_rgb.proofs.rows.encode.rgb_to_yuv444.Given as goal

abbrev pub invariant-loop-k : goal.invariant-loop-k
invariant-loop-k g l =
    let at = g.O.ColorOrder.color_at in let size = g.O.ColorOrder.BYTES in record {
      y : WrittenBelow l.width l.height l.y_stride (sample_rows (y_of l.matrix) at size l.width l.source) l.initial.y
          l.y
          l.k;
      u : WrittenBelow l.width l.height l.u_stride (sample_rows (u_of l.matrix) at size l.width l.source) l.initial.u
          l.u
          l.k;
      v : WrittenBelow l.width l.height l.v_stride (sample_rows (v_of l.matrix) at size l.width l.source) l.initial.v
          l.v
          l.k;
    }
