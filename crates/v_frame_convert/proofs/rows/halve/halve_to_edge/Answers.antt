-- The pairs are halved first, and then the last column of an odd width.
use Rattle.std.proofs.Common.{ℕ, ◌≡◌, ◌+◌, ◌*◌, ◌/◌, length, take, Some, slice_get, slice_set, refl}
use Rattle.std.proofs.Common.{sym, ◌∙◌, ap, arith}
use Rattle.std.proofs.Math.ListN.{length-set}
use Rattle.std.proofs.lemmas.Option.{slice_get_read}
use Rattle.v_frame.specs.Prelude.{halved}
use Rattle.v_frame_raster.proofs.tables.Lists.{set_is_read, slice_get-drop}
use Rattle.v_frame_convert.specs.ScaledRows.{mean_in_two_rows}
use Rattle.v_frame_convert.specs.declared.scale.Scale.TheVariants.{Half}
use Rattle.v_frame_convert.proofs.Halves.{with_last, last_mean}
use Rattle.v_frame_convert.proofs.rows.halve.halve_to_edge.Goals as goal

pub returns-then-last-eq1 : goal.returns-then-last-eq1
returns-then-last-eq1 g c =
    let form = g.T.Pixel.form in let top = c.args.top.now in let bottom = c.args.bottom.now in
    let n : ℕ = length top / 2 in let front = c.halve_rows.new.dst in let last = c.split_at_mut-front.result.1.now in
    let p = c.index-upper_last-0.result in let q = c.index-lower_last-0.result in
    let count : length front ≡ n = omega (arith, c.halve_rows.auto.dst, c.split_at_mut-front.ensures.front_len) in
    let is : front ≡ halved form (take (2 * n) top) (take (2 * n) bottom) =
    c.halve_rows.ensures ∙ rw (c.split_at.ensures.front, c.split_at-2.ensures.front) refl in
    let one : length last ≡ 1 = c.if-last-eq1.true in
    let wide : length top ≡ 2 * n + 1 =
    omega (arith, one, c.split_at_mut-front.ensures.back_len, c.requires.top) in
    let none : 2 * n + 0 ≡ 2 * n = omega arith in
    let upper : slice_get top (2 * n) ≡ Some p =
    ap (slice_get top) (sym none) ∙ sym (slice_get-drop (2 * n) top 0)
    ∙ ap (λ xs. slice_get xs 0) (sym c.split_at.ensures.back)
    ∙ slice_get_read c.split_at.result.1.now _ 0 p refl (omega (arith, wide, c.split_at.ensures.back_len))
    c.index-upper_last-0.is in
    let lower : slice_get bottom (2 * n) ≡ Some q =
    ap (slice_get bottom) (sym none) ∙ sym (slice_get-drop (2 * n) bottom 0)
    ∙ ap (λ xs. slice_get xs 0) (sym c.split_at-2.ensures.back)
    ∙ slice_get_read c.split_at-2.result.1.now _ 0 q refl
    (omega (arith, wide, c.split_at-2.ensures.back_len, c.requires.bottom)) c.index-lower_last-0.is in
    let pixel = c.mean_of_two.result in
    let mean = last_mean form n top bottom p q wide c.requires.bottom upper lower in
    with_last form n top bottom front (slice_set last 0 pixel) count is (omega (arith, wide)) c.requires.bottom (λ x h.
    let first : x ≡ 0 = omega (arith, h, one, length-set last 0 pixel) in
    let at : n + x ≡ n = omega (arith, first) in
    ap (slice_get (slice_set last 0 pixel)) first ∙ set_is_read last 0 pixel (omega (arith, one))
    ∙ ap Some (c.mean_of_two.ensures ∙ ap form.pixel_of (sym mean
    ∙ ap (mean_in_two_rows form Half top bottom) (sym at))))

pub returns-else-last-eq1 : goal.returns-else-last-eq1
returns-else-last-eq1 g c =
    let form = g.T.Pixel.form in let top = c.args.top.now in let bottom = c.args.bottom.now in
    let n : ℕ = length top / 2 in let front = c.halve_rows.new.dst in let last = c.split_at_mut-front.result.1.now in
    let count : length front ≡ n = omega (arith, c.halve_rows.auto.dst, c.split_at_mut-front.ensures.front_len) in
    let is : front ≡ halved form (take (2 * n) top) (take (2 * n) bottom) =
    c.halve_rows.ensures ∙ rw (c.split_at.ensures.front, c.split_at-2.ensures.front) refl in
    let none : length last ≡ 0 =
    omega (arith, c.split_at_mut-front.ensures.back_len, c.requires.top, c.if-last-eq1.false) in
    with_last form n top bottom front last count is (omega arith) c.requires.bottom
    (λ x h. absurd (omega (arith, h, none)))
