-- The bytes of one more sample of each row follow those before.
use Rattle.std.proofs.Common.{◌+◌, ◌*◌, ◌≤◌, length, refl, sym, ◌∙◌, ap, arith}
use Rattle.std.proofs.Math.Nat.{mul-le-mul_left}
use Rattle.std.proofs.lemmas.Option.{slice_get_read}
use Rattle.v_frame_raster.proofs.PixelBytes.{length-bytes_from}
use Rattle.v_frame_semi_planar.proofs.Stored.{one_pair_more}
use Rattle.v_frame_semi_planar.proofs.samples.encode_pairs.Goals as goal

pub loop-i-preserved : goal.loop-i-preserved
loop-i-preserved g c =
    let form = g.T.Pixel.form in let size = g.T.Pixel.BYTES in let i = c.loop-i.i in
    let us = c.args.first.now in let vs = c.args.second.now in
    let low : i ≤ length us = omega arith in
    let within : 2 * size * i ≤ length c.loop-i.bytes =
    omega (arith, mul-le-mul_left (2 * size) low, c.loop-i.auto.bytes, c.requires.long) in
    let made = c.encode_sample.ensures in
    let made_second = c.encode_sample-in-loop-i.ensures in
    let long = ap length made ∙ length-bytes_from 0 form.size _ ∙ sym g.met.T.Pixel.bytes_of_form in
    let long_second = ap length made_second ∙ length-bytes_from 0 form.size _ ∙ sym g.met.T.Pixel.bytes_of_form in
    let u = slice_get_read us _ i _ refl (omega arith) c.index-first-i.is in
    let v = slice_get_read vs _ i _ refl (omega (arith, c.requires.equal)) c.index-second-i.is in
    rw (c.BYTES.ensures, c.BYTES-in-loop-i.ensures, c.BYTES-in-loop-i-2.ensures)
    (one_pair_more form c.args.unused i us vs _ _ c.loop-i.bytes _ _ (2 * size * i) size (2 * size * (i + 1))
    c.loop-i.invariant within u v made long made_second long_second (omega arith))
