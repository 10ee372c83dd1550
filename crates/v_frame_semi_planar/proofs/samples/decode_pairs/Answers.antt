-- The blocks and the remaining samples are those that the bytes encode.
use Rattle.std.proofs.Common.{◌≡◌, ◌+◌, ◌*◌, ◌<◌, ◌++◌, length, take, drop, refl, sym, ◌∙◌, ap, arith}
use Rattle.v_frame_semi_planar.specs.Interleaved.{interleaved}
use Rattle.v_frame_semi_planar.specs.SemiPlanar.{shown_pixels}
use Rattle.v_frame_semi_planar.proofs.BytePairs.{parts_shown}
use Rattle.v_frame_semi_planar.proofs.Interleaving.{interleaved-append}
use Rattle.v_frame_semi_planar.proofs.samples.decode_pairs.Goals as goal
use Rattle.v_frame_semi_planar.proofs.samples.decode_pairs.Goals.{then-unused-eq0, else-unused-eq0}

pub returns : goal.returns
returns g c =
    let form = g.T.Pixel.form in let bytes = c.args.bytes.now in let unused = c.args.unused in
    let whole = c.if-unused-eq0.whole in let n = 2 * whole in
    let a = c.decode_blocks.new.first in let b = c.decode_blocks.new.second in
    let u = c.decode_pairs_of_samples.new.first in let v = c.decode_pairs_of_samples.new.second in
    let left = length c.split_at_mut-first_front.result.1.now in
    let same : length b ≡ length a = omega (
      arith,
      c.decode_blocks.auto.first,
      c.decode_blocks.auto.second,
      c.split_at_mut-first_front.ensures.front_len,
      c.split_at_mut-second_front.ensures.front_len,
    ) in
    let front : interleaved a b ≡ shown_pixels form 0 n (take n bytes) =
    rw (c.split_at_mut-first_front.ensures.front_len, c.split_at.ensures.front) at c.decode_blocks.ensures in
    let back : interleaved u v ≡ shown_pixels form unused (2 * left) (drop n bytes) =
    rw (c.split_at.ensures.back) at c.decode_pairs_of_samples.ensures in
    let joined : interleaved a b ++ interleaved u v
    ≡ shown_pixels form 0 n (take n bytes) ++ shown_pixels form unused (2 * left) (drop n bytes) =
    rw (front, back) refl in
    let facts : 0 < whole → (unused ≡ 0) × (form.size ≡ 1) = λ some. elim c.if-unused-eq0.branch [
      | then-unused-eq0 w ↦ (
        omega (arith, w.if-unused-eq0),
        sym g.met.T.Pixel.bytes_of_form
            ∙ w.pairs_in_blocks-whole.ensures.bytes (omega (arith, some, w.whole-is)),
      )
      | else-unused-eq0 w ↦ absurd (omega (arith, some, w.whole-is))
    ] in
    let all : n + 2 * left ≡ 2 * length c.args.first.now = omega (
      arith,
      c.split_at_mut-first_front.ensures.front_len,
      c.split_at_mut-first_front.ensures.back_len,
    ) in
    interleaved-append a b u v same ∙ joined ∙ parts_shown form unused whole left bytes facts
    ∙ ap (λ count. shown_pixels form unused count bytes) all
