-- The blocks and the remaining pixels are the row.
use Rattle.std.proofs.Common.{◌≡◌, ◌*◌, ◌++◌, length, take, drop, refl, sym, ◌∙◌, arith}
use Rattle.std.proofs.lemmas.List.{take-append-drop}
use Rattle.v_frame_semi_planar.specs.Interleaved.{interleaved}
use Rattle.v_frame_semi_planar.proofs.Interleaving.{interleaved-append}
use Rattle.v_frame_semi_planar.proofs.rows.chroma.deinterleave_row.Goals as goal

pub returns : goal.returns
returns g c =
    let row = c.args.row.now in let n = 2 * c.pairs_in_blocks-whole.result in
    let a = c.deinterleave_blocks.new.first in let b = c.deinterleave_blocks.new.second in
    let u = c.deinterleave_pixels-2.new.first in let v = c.deinterleave_pixels-2.new.second in
    let same : length b ≡ length a = omega (
      arith,
      c.deinterleave_blocks.auto.first,
      c.deinterleave_blocks.auto.second,
      c.split_at_mut-first_front.ensures.front_len,
      c.split_at_mut-second_front.ensures.front_len,
    ) in
    let front : take n row ≡ interleaved a b = sym c.split_at.ensures.front ∙ c.deinterleave_blocks.ensures in
    let back : drop n row ≡ interleaved u v = sym c.split_at.ensures.back ∙ c.deinterleave_pixels-2.ensures in
    let joined : take n row ++ drop n row ≡ interleaved a b ++ interleaved u v = rw (front, back) refl in
    sym (take-append-drop n row) ∙ joined ∙ sym (interleaved-append a b u v same)
