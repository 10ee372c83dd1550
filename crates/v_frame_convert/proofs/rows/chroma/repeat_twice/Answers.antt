-- The pairs are written first, and then the last column of an odd width.
use Rattle.std.proofs.Common.{ℕ, ◌≡◌, ◌≤◌, ◌*◌, ◌/◌, length, slice_get, slice_set, refl, sym, ◌∙◌, ap, arith}
use Rattle.std.proofs.Math.ListN.{length-set}
use Rattle.std.proofs.lemmas.Option.{slice_get_read}
use Rattle.v_frame_raster.proofs.tables.Lists.{set_is_read}
use Rattle.v_frame_convert.proofs.Repeated.{twice_and_last}
use Rattle.v_frame_convert.proofs.rows.chroma.repeat_twice.Goals as goal

pub returns-then-last-eq1 : goal.returns-then-last-eq1
returns-then-last-eq1 g c =
    let source = c.args.source.now in let n : ℕ = length c.args.row.now / 2 in let front = c.write_twice.new.row in
    let last = c.split_at_mut-front.result.1.now in let pixel = c.index-source-pairs.result in
    let one : length last ≡ 1 = c.if-last-eq1.true in
    let long : n ≤ length source = omega (arith, c.requires) in
    let count : length front ≡ 2 * n = omega (arith, c.write_twice.auto.row, c.split_at_mut-front.ensures.front_len) in
    let read = slice_get_read source _ n pixel refl
    (omega (arith, one, c.requires, c.split_at_mut-front.ensures.back_len)) c.index-source-pairs.is in
    twice_and_last source front (slice_set last 0 pixel) n long count c.write_twice.ensures
    (omega (arith, one, length-set last 0 pixel)) (λ k h.
    let first : k ≡ 0 = omega (arith, h, one, length-set last 0 pixel) in
    ap (slice_get (slice_set last 0 pixel)) first ∙ set_is_read last 0 pixel (omega (arith, one)) ∙ sym read)

pub returns-else-last-eq1 : goal.returns-else-last-eq1
returns-else-last-eq1 g c =
    let source = c.args.source.now in let n : ℕ = length c.args.row.now / 2 in let front = c.write_twice.new.row in
    let last = c.split_at_mut-front.result.1.now in
    let long : n ≤ length source = omega (arith, c.requires) in
    let count : length front ≡ 2 * n = omega (arith, c.write_twice.auto.row, c.split_at_mut-front.ensures.front_len) in
    let none : length last ≡ 0 = omega (arith, c.split_at_mut-front.ensures.back_len, c.if-last-eq1.false) in
    twice_and_last source front last n long count c.write_twice.ensures (omega (arith, none))
    (λ k h. absurd (omega (arith, h, none)))
