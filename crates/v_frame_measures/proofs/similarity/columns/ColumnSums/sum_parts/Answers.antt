-- The loop step: one more column.
use Rattle.std.proofs.Common.{[], ◌∷◌, arith, ◌∙◌}
use Rattle.v_frame_measures.proofs.Columns.{ColumnPixels, column_of_pixels, one_more_column}
use Rattle.v_frame_measures.proofs.Joined.{alike}
use Rattle.v_frame_measures.proofs.similarity.columns.ColumnSums.sum_parts.Goals as goal

pub loop-i-preserved : goal.loop-i-preserved
loop-i-preserved g c =
    let value = g.T.Pixel.form.value in let i = c.loop-i.i in
    let p0 = c.args.p0.now in let p1 = c.args.p1.now in let p2 = c.args.p2.now in let p3 = c.args.p3.now in
    let q0 = c.args.q0.now in let q1 = c.args.q1.now in let q2 = c.args.q2.now in let q3 = c.args.q3.now in
    let u0 = c.index-p0-i in let u1 = c.index-p1-i in let u2 = c.index-p2-i in let u3 = c.index-p3-i in
    let w0 = c.index-q0-i in let w1 = c.index-q1-i in let w2 = c.index-q2-i in let w3 = c.index-q3-i in
    let s0 = c.squares_of.ensures in let s1 = c.squares_of-in-loop-i.ensures in
    let s2 = c.squares_of-in-loop-i-2.ensures in let s3 = c.squares_of-in-loop-i-3.ensures in
    let t0 = c.product_of.ensures in let t1 = c.product_of-in-loop-i.ensures in
    let t2 = c.product_of-in-loop-i-2.ensures in let t3 = c.product_of-in-loop-i-3.ensures in
    let first : ColumnPixels value p0 p1 p2 p3 i u0.result u1.result u2.result u3.result =
    record {
      long0 = omega (arith, c.requires.p0.long);
      long1 = omega (arith, c.requires.p1.long);
      long2 = omega (arith, c.requires.p2.long);
      long3 = omega (arith, c.requires.p3.long);
      is0 = u0.is;
      is1 = u1.is;
      is2 = u2.is;
      is3 = u3.is;
    } in
    let second : ColumnPixels value q0 q1 q2 q3 i w0.result w1.result w2.result w3.result =
    record {
      long0 = omega (arith, c.requires.q0.long);
      long1 = omega (arith, c.requires.q1.long);
      long2 = omega (arith, c.requires.q2.long);
      long3 = omega (arith, c.requires.q3.long);
      is0 = w0.is;
      is1 = w1.is;
      is2 = w2.is;
      is3 = w3.is;
    } in
    one_more_column value (p0 ∷ p1 ∷ p2 ∷ p3 ∷ []) (q0 ∷ q1 ∷ q2 ∷ q3 ∷ []) c.loop-i.self i _ _ _ _ c.loop-i.invariant
    c.loop-i-test.true
    (alike _ _ _ _ _ _ _ _ c.sum_of_values.ensures.value c.sum_of_values-in-loop-i.ensures.value
    (omega (arith, c.sum_of_four.ensures, s0.value, s1.value, s2.value, s3.value))
    (omega (arith, c.sum_of_four-in-loop-i.ensures, t0.value, t1.value, t2.value, t3.value))
    ∙ column_of_pixels value p0 p1 p2 p3 q0 q1 q2 q3 i _ _ _ _ _ _ _ _ first second)
    c.sum_of_values.ensures.bound c.sum_of_values-in-loop-i.ensures.bound
    (omega (arith, c.sum_of_four.ensures, s0.bound, s1.bound, s2.bound, s3.bound))
    (omega (arith, c.sum_of_four-in-loop-i.ensures, t0.bound, t1.bound, t2.bound, t3.bound))
