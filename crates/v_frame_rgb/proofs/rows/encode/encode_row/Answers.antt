-- The loop step writes the sample of one more color.
use Rattle.std.proofs.Common.{◌≡◌, ◌+◌, ◌-◌, ◌*◌, ◌∙◌, ap, arith}
use Rattle.v_frame_rgb.proofs.SampleLemmas.{one_more_sample}
use Rattle.v_frame_rgb.proofs.rows.encode.encode_row.Goals as goal

pub loop-x-preserved : goal.loop-x-preserved
loop-x-preserved g c =
    let size = g.O.ColorOrder.BYTES in let x = c.loop-x.x in
    let first : c.BYTES.result ≡ size = c.BYTES.ensures in
    let second : c.BYTES-in-loop-x.result ≡ size = c.BYTES-in-loop-x.ensures in
    let cut : size * x + size - size * x ≡ size = omega arith in
    let color = rw (first, second, cut) at c.read.ensures in
    one_more_sample (g.C.Channel.sample c.args.matrix) g.O.ColorOrder.color_at size c.args.colors.now c.loop-x.out x
    c.sample.result (omega arith) (c.sample.ensures ∙ ap (g.C.Channel.sample c.args.matrix) color) c.loop-x.invariant
