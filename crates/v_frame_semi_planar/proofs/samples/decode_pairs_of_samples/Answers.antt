-- One more sample of each row is the one that its bytes encode.
use Rattle.std.proofs.Common.{◌≡◌, ◌+◌, ◌*◌, length, slice_get, slice_set, sym, ◌∙◌, ap, arith}
use Rattle.v_frame_raster.proofs.tables.Lists.{set_is_read, others_are_read}
use Rattle.v_frame_semi_planar.specs.SemiPlanar.{shown_pixels}
use Rattle.v_frame_semi_planar.proofs.Interleaving.{by_turns}
use Rattle.v_frame_semi_planar.proofs.Stored.{decoded_at, length-shown}
use Rattle.v_frame_semi_planar.proofs.samples.decode_pairs_of_samples.Goals as goal
use borrow.Author.Count.{below_more}

pub loop-i-preserved : goal.loop-i-preserved
loop-i-preserved g c =
    let form = g.T.Pixel.form in let i = c.loop-i.i in let count = 2 * length c.args.first.now in
    let us = c.loop-i.first in let vs = c.loop-i.second in
    let u = c.decode_sample-p.result in let v = c.decode_sample-q.result in
    let shown = shown_pixels form c.args.unused count c.args.bytes.now in
    let size = c.BYTES-in-loop-i.ensures ∙ g.met.T.Pixel.bytes_of_form in
    let size_second = c.BYTES-in-loop-i-2.ensures ∙ g.met.T.Pixel.bytes_of_form in
    let start : 2 * c.BYTES.result * i ≡ c.BYTES-in-loop-i.result * (2 * i) =
    rw (c.BYTES.ensures, c.BYTES-in-loop-i.ensures) (omega arith) in
    let middle : 2 * c.BYTES.result * i + c.BYTES-in-loop-i.result ≡ c.BYTES-in-loop-i-2.result * (2 * i + 1) =
    rw (c.BYTES.ensures, c.BYTES-in-loop-i.ensures, c.BYTES-in-loop-i-2.ensures) (omega arith) in
    let first = decoded_at form c.args.unused count c.args.bytes.now (2 * i) _ _ u (omega arith) size start
    c.decode_sample-p.ensures in
    let second = decoded_at form c.args.unused count c.args.bytes.now (2 * i + 1) _ _ v (omega arith) size_second middle
    c.decode_sample-q.ensures in
    record {
      first =
          below_more (λ k. slice_get shown (2 * k) ≡ slice_get (slice_set us i u) k) i
          (λ k h. c.loop-i.invariant.first k h ∙ sym (others_are_read us i k u (omega arith)))
          (first ∙ sym (set_is_read us i u (omega arith)));
      second =
          below_more (λ k. slice_get shown (2 * k + 1) ≡ slice_get (slice_set vs i v) k) i
          (λ k h. c.loop-i.invariant.second k h ∙ sym (others_are_read vs i k v (omega arith)))
          (second ∙ sym (set_is_read vs i v (omega (arith, c.requires.equal))));
    }

pub returns : goal.returns
returns g c =
    let form = g.T.Pixel.form in let count = 2 * length c.args.first.now in
    let all = c.loop-i.invariant in
    let first = c.loop-i.auto.first in
    sym (by_turns c.loop-i.first c.loop-i.second (shown_pixels form c.args.unused count c.args.bytes.now)
    (length-shown form c.args.unused count c.args.bytes.now ∙ sym (ap (λ n. 2 * n) first))
    (c.loop-i.auto.second ∙ c.requires.equal ∙ sym first)
    (record { first = λ k h. all.first k (omega arith); second = λ k h. all.second k (omega arith) }))
