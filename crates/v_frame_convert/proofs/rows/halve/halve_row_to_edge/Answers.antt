-- The blocks are halved first, and then the rest of the row.
use Rattle.std.proofs.Common.{◌≡◌, ◌*◌, ◌≤◌, length, take, Some, refl, ◌∙◌, ap, arith}
use Rattle.v_frame.specs.Prelude.{halved}
use Rattle.v_frame_convert.specs.ScaledRows.{mean_in_two_rows}
use Rattle.v_frame_convert.specs.declared.scale.Scale.TheVariants.{Half}
use Rattle.v_frame_convert.proofs.Halves.{with_last, mean_past}
use Rattle.v_frame_convert.proofs.rows.halve.halve_row_to_edge.Goals as goal

pub returns : goal.returns
returns g c =
    let form = g.T.Pixel.form in let source = c.args.source.now in let n = c.pairs_in_blocks-whole.result in
    let front = c.halve_blocks.new.row in let back = c.halve_pairs.new.row in
    let rest = c.split_at.result.1.now in
    let count : length front ≡ n = omega (arith, c.halve_blocks.auto.row, c.split_at_mut-front.ensures.front_len) in
    let is : front ≡ halved form (take (2 * n) source) (take (2 * n) source) =
    c.halve_blocks.ensures ∙ rw (c.split_at.ensures.front) refl in
    let long : 2 * n ≤ length source = omega arith in
    with_last form n source source front back count is long refl (λ x h.
    c.halve_pairs.ensures x h ∙ ap (λ m. Some (form.pixel_of m)) (
    ap (λ xs. mean_in_two_rows form Half xs xs x) c.split_at.ensures.back
    ∙ mean_past form n x source
    (omega (arith, h, c.halve_pairs.auto.row, c.split_at_mut-front.ensures.back_len, c.requires))))
