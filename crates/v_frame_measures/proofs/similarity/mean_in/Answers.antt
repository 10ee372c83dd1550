-- The loop steps: one more line of a band, and one more line of the rest.
use Rattle.std.proofs.Common.{◌≡◌, ◌+◌, ◌*◌, ap, ◌∙◌, arith}
use Rattle.std.specs.Float.Ieee.{binary64}
use Rattle.std.proofs.lemmas.Nat.{le_or_l, le_or_r}
use Rattle.v_frame_measures.specs.Ssim.{constants_of, line_format, line_of, peak_of}
use Rattle.v_frame_measures.proofs.Lines.{one_more}
use Rattle.v_frame_measures.proofs.similarity.mean_in.Goals as goal

pub sums_of_lines-requires-clause-first : goal.sums_of_lines-requires-clause-first
sums_of_lines-requires-clause-first g c κs within k d h i e inside =
    omega (arith, c.bits_of_rows.ensures k d h i e inside, le_or_l c.bits_of_rows.result c.bits_of_rows-2.result)

pub sums_of_lines-requires-clause-second : goal.sums_of_lines-requires-clause-second
sums_of_lines-requires-clause-second g c κs within k d h i e inside =
    omega (arith, c.bits_of_rows-2.ensures k d h i e inside, le_or_r c.bits_of_rows.result c.bits_of_rows-2.result)

pub loop-k-preserved : goal.loop-k-preserved
loop-k-preserved g c =
    let form = g.T.Pixel.form in let a = c.args.a.now in let b = c.args.b.now in let k = c.loop-k.k in
    let n = 32 * c.loop-band.band + k in let format = line_format form.size in
    let constants = constants_of (peak_of c.args.bit_depth) in
    let next : 32 * c.loop-band.band + (k + 1) ≡ n + 1 = omega arith in
    rw next
    (one_more binary64 (line_of form constants a b format) n _ _ c.loop-k.invariant
    (c.into_f64-sum.ensures
    ∙ ap g.F.LineSum.float c.index-sums-k.is
    ∙ c.sums_of_lines.ensures.value k (omega arith) c.index-sums-k.result
    ∙ ap (λ known. line_of form known a b g.F.LineSum.format n) c.of_depth-constants.ensures.value
    ∙ ap (λ known. line_of form constants a b known n) c.requires.format))

pub loop-y-preserved : goal.loop-y-preserved
loop-y-preserved g c =
    let form = g.T.Pixel.form in let a = c.args.a.now in let b = c.args.b.now in let y = c.loop-y.y in
    let format = line_format form.size in let constants = constants_of (peak_of c.args.bit_depth) in
    one_more binary64 (line_of form constants a b format) y _ _ c.loop-y.invariant
    (c.into_f64-sum-in-loop-y.ensures
    ∙ c.line_in.ensures
    ∙ ap (λ known. line_of form known a b g.F.LineSum.format y) c.of_depth-constants.ensures.value
    ∙ ap (λ known. line_of form constants a b known y) c.requires.format)
