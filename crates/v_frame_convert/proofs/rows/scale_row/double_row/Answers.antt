-- Both columns of a pair have the same mean.
use Rattle.std.proofs.Common.{ℕ, ◌≡◌, ◌+◌, ◌*◌, ◌/◌, ◌<◌, [], ◌∷◌, ◌++◌, Some, slice_get, slice_set, sym, ◌∙◌, ap}
use Rattle.std.proofs.Common.{arith}
use Rattle.std.proofs.Math.ListN.{length-set}
use Rattle.v_frame_raster.proofs.tables.Lists.{others_are_read, set_is_read}
use Rattle.v_frame_convert.specs.Depth.{at_depth}
use Rattle.v_frame_convert.specs.Scale.{mean_of, values_at}
use Rattle.v_frame_convert.proofs.rows.scale_row.double_row.Goals as goal
use borrow.Author.Count.{below_more}

pub loop-i-preserved : goal.loop-i-preserved
loop-i-preserved g c =
    let S = g.S.Pixel.form in let T = g.T.Pixel.form in
    let top = c.args.top.now in let bottom = c.args.bottom.now in let change = c.args.change.now in
    let made : ℕ → g.row.T.Denot = λ p.
    T.pixel_of (at_depth change.from change.to (mean_of (values_at S (p ∷ []) top ++ values_at S (p ∷ []) bottom))) in
    let i = c.loop-i.i in let row = c.loop-i.row in let pixel = c.mean_at-pixel.result in
    let once = slice_set row (2 * i) pixel in let now = slice_set once (2 * i + 1) pixel in
    let first : 2 * i / 2 ≡ i = omega arith in
    let second : (2 * i + 1) / 2 ≡ i = omega arith in
    let is : pixel ≡ made i = c.mean_at-pixel.ensures in
    let end : 2 * (i + 1) ≡ 2 * i + 1 + 1 = omega arith in
    let both : (x : ℕ) → x < 2 * i + 1 + 1 → slice_get now x ≡ Some (made (x / 2)) =
    below_more (λ x. slice_get now x ≡ Some (made (x / 2))) (2 * i + 1)
    (below_more (λ x. slice_get now x ≡ Some (made (x / 2))) (2 * i)
    (λ x h. others_are_read once (2 * i + 1) x pixel (omega arith)
    ∙ others_are_read row (2 * i) x pixel (omega arith) ∙ c.loop-i.invariant x h)
    (others_are_read once (2 * i + 1) (2 * i) pixel (omega arith) ∙ set_is_read row (2 * i) pixel (omega arith)
    ∙ ap Some (is ∙ ap made (sym first))))
    (set_is_read once (2 * i + 1) pixel (omega (arith, length-set row (2 * i) pixel)) ∙ ap Some (is ∙ ap made (sym second)))
    in
    λ x h. both x (omega (arith, h, end))

pub loop-x-preserved : goal.loop-x-preserved
loop-x-preserved g c =
    let S = g.S.Pixel.form in let T = g.T.Pixel.form in
    let top = c.args.top.now in let bottom = c.args.bottom.now in let change = c.args.change.now in
    let made : ℕ → g.row.T.Denot = λ p.
    T.pixel_of (at_depth change.from change.to (mean_of (values_at S (p ∷ []) top ++ values_at S (p ∷ []) bottom))) in
    let x = c.loop-x.x in let row = c.loop-x.row in let pixel = c.mean_at.result in
    below_more (λ k. slice_get (slice_set row x pixel) k ≡ Some (made (k / 2))) x
    (λ k h. others_are_read row x k pixel (omega arith) ∙ c.loop-x.invariant k h)
    (set_is_read row x pixel (omega arith) ∙ ap Some (c.mean_at.ensures ∙ ap made (omega arith)))
