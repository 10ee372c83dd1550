-- The previous rows are written.
use Rattle.std.proofs.Common.{◌≡◌, ◌*◌, take, vec_len}
use Rattle.v_frame.specs.Prelude.{width_of}
use Rattle.v_frame_png.specs.Writing.{HasDrawn}
use Rattle.v_frame_rgb.specs.Exact.{exact_color_rows}
use Rattle.yuv_pictures.specs.Colors.{rgb_bytes}
use Rattle.yuv_pictures.proofs.colors.write_color_rows.Given as goal

abbrev pub invariant-loop-k : goal.invariant-loop-k
invariant-loop-k g l = record {
  drawn : HasDrawn g.W.Write.contents (g.W.Write.contents l.fn.out) l.png
      (take l.k (exact_color_rows l.matrix.standard l.matrix.range l.matrix.depth g.T.Pixel.form rgb_bytes l.y l.u l.v));
  header : l.png.header ≡ l.fn.header;
  size : vec_len l.line ≡ 3 * width_of l.y;
}
