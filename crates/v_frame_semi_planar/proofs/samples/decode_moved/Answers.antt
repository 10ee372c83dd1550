-- One more sample is the one that its bytes encode.
use Rattle.std.proofs.Common.{◌≡◌, ◌*◌, length, slice_get, slice_set, refl, sym, ◌∙◌, arith}
use Rattle.v_frame_raster.proofs.tables.Lists.{same_by_slice_get, set_is_read, others_are_read}
use Rattle.v_frame_semi_planar.specs.SemiPlanar.{shown_pixels}
use Rattle.v_frame_semi_planar.proofs.Stored.{decoded_at, length-shown}
use Rattle.v_frame_semi_planar.proofs.samples.decode_moved.Goals as goal
use borrow.Author.Count.{below_more}

pub loop-i-preserved : goal.loop-i-preserved
loop-i-preserved g c =
    let form = g.T.Pixel.form in let row = c.loop-i.row in let i = c.loop-i.i in let r = c.decode_sample.result in
    let shown = shown_pixels form c.args.unused (length c.args.row.now) c.args.bytes.now in
    let size = c.BYTES-in-loop-i.ensures ∙ g.met.T.Pixel.bytes_of_form in
    let start : c.BYTES.result * i ≡ c.BYTES-in-loop-i.result * i = rw (c.BYTES.ensures, c.BYTES-in-loop-i.ensures) refl in
    let made = decoded_at form c.args.unused (length c.args.row.now) c.args.bytes.now i _ _ r (omega arith) size start
    c.decode_sample.ensures in
    below_more (λ k. slice_get (slice_set row i r) k ≡ slice_get shown k) i
    (λ k h. others_are_read row i k r (omega arith) ∙ c.loop-i.invariant k h)
    (set_is_read row i r (omega arith) ∙ sym made)

pub returns : goal.returns
returns g c =
    let form = g.T.Pixel.form in
    let count = length c.args.row.now in
    same_by_slice_get c.loop-i.row (shown_pixels form c.args.unused count c.args.bytes.now)
    (c.loop-i.auto.row ∙ sym (length-shown form c.args.unused count c.args.bytes.now)) (λ k h.
    c.loop-i.invariant k (omega arith))
