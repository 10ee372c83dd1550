-- The loop step writes the samples of one more color.
use Rattle.std.proofs.Common.{◌≡◌, ◌+◌, ◌-◌, ◌*◌, ◌∙◌, ap, arith}
use Rattle.v_frame_rgb.specs.Colors.{y_of, u_of, v_of}
use Rattle.v_frame_rgb.proofs.SampleLemmas.{one_more_sample}
use Rattle.v_frame_rgb.proofs.rows.encode.encode_channels.Goals as goal

pub loop-x-preserved : goal.loop-x-preserved
loop-x-preserved g c =
    let size = g.O.ColorOrder.BYTES in let x = c.loop-x.x in let m = c.args.matrix in
    let first : c.BYTES.result ≡ size = c.BYTES.ensures in
    let second : c.BYTES-in-loop-x.result ≡ size = c.BYTES-in-loop-x.ensures in
    let cut : size * x + size - size * x ≡ size = omega arith in
    let color = rw (first, second, cut) at c.read-color.ensures in
    let at = g.O.ColorOrder.color_at in let colors = c.args.colors.now in record {
      y = one_more_sample (y_of m) at size colors c.loop-x.y x _ (omega arith) (c.sample.ensures ∙ ap (y_of m) color)
          c.loop-x.invariant.y;
      u = one_more_sample (u_of m) at size colors c.loop-x.u x _ (omega arith) (c.sample-in-loop-x.ensures ∙ ap (u_of
          m) color)
          c.loop-x.invariant.u;
      v = one_more_sample (v_of m) at size colors c.loop-x.v x _ (omega arith) (c.sample-in-loop-x-2.ensures ∙ ap
          (v_of m) color)
          c.loop-x.invariant.v;
    }
