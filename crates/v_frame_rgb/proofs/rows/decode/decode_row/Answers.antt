-- The loop step writes the color of one more pixel. The last pixel is handled after the loop.
use Rattle.std.proofs.Common.{◌≡◌, ◌+◌, ◌-◌, ◌*◌, length, ◌∙◌, ap, arith}
use Rattle.std.proofs.Math.Nat.{mul-le-mul_left}
use Rattle.std.proofs.lemmas.List.{take_all}
use Rattle.std.proofs.lemmas.Option.{slice_get-get_or}
use Rattle.v_frame_rgb.specs.Colors.{color_of, colors_of}
use Rattle.v_frame_rgb.proofs.ColorLemmas.{one_more_item, slice_get-colors_by, length-colors_by}
use Rattle.v_frame_rgb.proofs.rows.decode.decode_row.Goals as goal

pub loop-x-preserved : goal.loop-x-preserved
loop-x-preserved g c =
    let size = g.O.ColorOrder.BYTES in let x = c.loop-x.x in let m = c.args.matrix in
    let ys = c.args.y.now in let us = c.args.u.now in let vs = c.args.v.now in
    let inside = mul-le-mul_left size c.loop-x-test.true in
    let first : c.BYTES.result ≡ size = c.BYTES.ensures in
    let second : c.BYTES-in-loop-x.result ≡ size = c.BYTES-in-loop-x.ensures in
    let cut : size * x + size - size * x ≡ size = omega arith in
    let is = slice_get-colors_by (color_of m) ys us vs x _ _ _ (slice_get-get_or ys x 0 c.loop-x-test.true)
    (slice_get-get_or us x 0 (omega arith)) (slice_get-get_or vs x 0 (omega arith)) in
    rw (first, second, cut)
    (one_more_item g.O.ColorOrder.bytes_of size g.met.O.ColorOrder.length_of_bytes (colors_of m ys us vs) c.loop-x.out
    c.write.new.pixel x _ is (c.write.ensures ∙ ap g.O.ColorOrder.bytes_of c.color.ensures)
    (omega (arith, inside)) c.loop-x.invariant)

pub returns : goal.returns
returns g c =
    let size = g.O.ColorOrder.BYTES in
    let end : c.loop-x.x ≡ length c.args.y.now = omega arith in
    let colors = colors_of c.args.matrix c.args.y.now c.args.u.now c.args.v.now in
    let count = length-colors_by (color_of c.args.matrix) c.args.y.now c.args.u.now c.args.v.now c.requires.u c.requires.v in
    let whole = rw (
      end,
      take_all (size * length c.args.y.now) c.loop-x.out (omega (arith, c.requires.out, c.loop-x.auto.out)),
      take_all (length c.args.y.now) colors (omega (arith, count)),
    ) at c.loop-x.invariant in whole
