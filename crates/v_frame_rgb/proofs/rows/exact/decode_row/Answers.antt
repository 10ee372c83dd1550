-- The loop step writes the color of one more pixel. The last pixel is handled after the loop.
use Rattle.std.proofs.Common.{◌≡◌, ◌+◌, ◌-◌, ◌*◌, length, refl, ◌∙◌, ap, arith}
use Rattle.std.proofs.Math.Nat.{mul-le-mul_left}
use Rattle.std.proofs.lemmas.List.{take_all}
use Rattle.std.proofs.lemmas.Option.{slice_get_read}
use Rattle.v_frame_rgb.specs.Exact.{exact_colors, exact_of_pixels}
use Rattle.v_frame_rgb.proofs.ColorLemmas.{one_more_item, slice_get-colors_by, length-colors_by}
use Rattle.v_frame_rgb.proofs.rows.exact.decode_row.Goals as goal

pub loop-x-preserved : goal.loop-x-preserved
loop-x-preserved g c =
    let size = g.O.ColorOrder.BYTES in let x = c.loop-x.x in let m = c.args.matrix.now in
    let ys = c.args.y.now in let us = c.args.u.now in let vs = c.args.v.now in
    let color = exact_of_pixels m.standard m.range m.depth g.T.Pixel.form in
    let inside = mul-le-mul_left size c.loop-x-test.true in
    let first : c.BYTES.result ≡ size = c.BYTES.ensures in
    let second : c.BYTES-in-loop-x.result ≡ size = c.BYTES-in-loop-x.ensures in
    let cut : size * x + size - size * x ≡ size = omega arith in
    let is = slice_get-colors_by color ys us vs x _ _ _
    (slice_get_read ys _ x _ refl c.loop-x-test.true c.index-y-x.is)
    (slice_get_read us _ x _ refl (omega arith) c.index-u-x.is)
    (slice_get_read vs _ x _ refl (omega arith) c.index-v-x.is) in
    rw (first, second, cut)
    (one_more_item g.O.ColorOrder.bytes_of size g.met.O.ColorOrder.length_of_bytes
    (exact_colors m.standard m.range m.depth g.T.Pixel.form ys us vs) c.loop-x.out
    c.write.new.pixel x _ is (c.write.ensures ∙ ap g.O.ColorOrder.bytes_of c.color_of_pixels-color.ensures)
    (omega (arith, inside)) c.loop-x.invariant)

pub returns : goal.returns
returns g c =
    let size = g.O.ColorOrder.BYTES in let m = c.args.matrix.now in
    let color = exact_of_pixels m.standard m.range m.depth g.T.Pixel.form in
    let end : c.loop-x.x ≡ length c.args.y.now = omega arith in
    let colors = exact_colors m.standard m.range m.depth g.T.Pixel.form c.args.y.now c.args.u.now c.args.v.now in
    let count = length-colors_by color c.args.y.now c.args.u.now c.args.v.now c.requires.u c.requires.v in
    let whole = rw (
      end,
      take_all (size * length c.args.y.now) c.loop-x.out (omega (arith, c.requires.out, c.loop-x.auto.out)),
      take_all (length c.args.y.now) colors (omega (arith, count)),
    ) at c.loop-x.invariant in whole
