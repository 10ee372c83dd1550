-- The rows processed so far are samples, and everything else is unchanged.
use Rattle.v_frame_raster.proofs.tables.StridedWrites.{WrittenBelow}
use Rattle.v_frame_rgb.specs.Colors.{sample_rows}
use Rattle.v_frame_rgb.proofs.rows.encode.rgb_to_channel.Given as goal

abbrev pub invariant-loop-k : goal.invariant-loop-k
invariant-loop-k g l = WrittenBelow l.width l.height l.stride
    (sample_rows (g.C.Channel.sample l.matrix) g.O.ColorOrder.color_at g.O.ColorOrder.BYTES l.width l.source)
    l.initial.buffer l.buffer l.k
