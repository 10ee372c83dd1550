-- The loop step adds one more window, whose left half is the right half of the previous window. After the last step,
-- all windows are added.
use Rattle.std.proofs.Common.{◌≡◌, ◌+◌, ◌*◌, ◌≤◌, ap, ◌∙◌, arith}
use Rattle.v_frame.specs.Prelude.{width_of}
use Rattle.v_frame_measures.specs.Ssim.{similarity_of, window_at, windows_along}
use Rattle.v_frame_measures.proofs.Joined.{window_of_halves}
use Rattle.v_frame_measures.proofs.Lines.{one_more}
use Rattle.v_frame_measures.proofs.similarity.line_in.Goals as goal

pub loop-x-preserved : goal.loop-x-preserved
loop-x-preserved g c =
    let form = g.T.Pixel.form in let a = c.args.a.now in let b = c.args.b.now in let constants = c.args.constants.now in
    let x = c.loop-x.x in let y = c.args.y in let so_far = c.loop-x.invariant in
    let right = c.sums_of_columns-right.ensures in let width = c.width-columns in let width1 = c.width-other in
    let within : 4 * x + 8 ≤ width.result = omega (arith, width.ensures.value) in
    let within1 : 4 * x + 8 ≤ width1.result =
    omega (arith, within, width.ensures.value, width1.ensures.value, c.requires.wide) in
    let next : 4 * (x + 1) ≡ 4 * x + 4 = omega arith in
    let window =
    window_of_halves form.value (4 * x) (4 * y) width.result width1.result a b _ _ c.plus.result c.plus.ensures.value
    so_far.left right.value width.ensures.rows width1.ensures.rows within within1 c.requires.high in
    record {
      so_far =
          c.with_window-sum.ensures
          ∙ one_more g.F.LineSum.format (λ k. window_at form constants a b k y) x _ _ so_far.so_far
          (c.similarity.ensures ∙ ap (similarity_of constants) window);
      left = rw next right.value;
      bound = right.bound;
    }

pub returns : goal.returns
returns g c =
    let done : c.loop-x.x ≡ windows_along (width_of c.args.a.now) = omega (arith, c.width-columns.ensures.value) in
    rw done at c.loop-x.invariant.so_far
