-- The loop step: one more row of four pixels.
use Rattle.std.proofs.Common.{◌≡◌, ◌+◌, ◌-◌, ◌*◌, ◌≤◌, length, ap, sym, ◌∙◌, arith}
use Rattle.v_frame_measures.specs.PixelSums.{added, sums_of_rectangle}
use Rattle.v_frame_measures.proofs.Joined.{sums_of_rectangle-more, rectangle-length}
use Rattle.v_frame_measures.proofs.similarity.sums.sums_of_columns.Goals as goal

pub loop-row-preserved : goal.loop-row-preserved
loop-row-preserved g c =
    let value = g.T.Pixel.form.value in let a = c.args.a.now in let b = c.args.b.now in
    let x = c.args.x in let y = c.args.y in let row = c.loop-row.row in let so_far = c.loop-row.invariant in
    let p = c.visible_row-p in let q = c.visible_row-q in
    let wide : x + 4 ≤ length p.result.now = omega (arith, p.ensures.wide, c.requires.across) in
    let wide1 : x + 4 ≤ length q.result.now = omega (arith, q.ensures.wide, c.requires.across, c.requires.wide) in
    let cut : x + 4 - x ≡ 4 = omega arith in
    let here = rw cut at c.sums_of_pixels.ensures.value in
    let next : 4 * (row + 1) ≡ 4 * row + 4 = omega arith in
    record {
      so_far =
          c.plus-sums.ensures.value
          ∙ ap (λ sums. added sums c.sums_of_pixels.result) so_far.so_far
          ∙ ap (added (sums_of_rectangle value x y 4 row a b)) here
          ∙ sym (sums_of_rectangle-more value x y 4 row a b p.result.now q.result.now p.ensures.value q.ensures.value
          (so_far.first ∙ sym so_far.second));
      first =
          omega (arith, so_far.first, rectangle-length value x y 4 row a p.result.now p.ensures.value wide);
      second =
          omega (arith, so_far.second, rectangle-length value x y 4 row b q.result.now q.ensures.value wide1);
      bound = rw next (c.plus-sums.ensures.bound (4 * row) 4 so_far.bound c.sums_of_pixels.ensures.bound);
    }
