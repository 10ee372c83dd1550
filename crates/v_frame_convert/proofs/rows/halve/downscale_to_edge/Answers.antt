-- Each row is set to the means of two source rows.
use Rattle.std.proofs.Common.{ℕ, ◌≡◌, ◌≢◌, ◌+◌, ◌-◌, ◌*◌, ◌<◌, List, length, drop, map, min, Some, slice_get, sym}
use Rattle.std.proofs.Common.{◌∙◌, ap, subst, arith, length-take-le, length-drop}
use Rattle.std.specs.List.{range_with_len}
use Rattle.std.proofs.lemmas.List.FromFn.{length-map-range_with_len}
use Rattle.v_frame.specs.Prelude.{RowsFit}
use Rattle.v_frame_raster.proofs.tables.StridedWrites.{row_ends, none_written, one_more_written, all_written}
use Rattle.v_frame_convert.specs.Scale.{places, scaled, block_mean}
use Rattle.v_frame_convert.specs.declared.scale.Scale.TheVariants.{Half, Quarter}
use Rattle.v_frame_convert.proofs.ScaledTables.{is_from_function, slice_get-from_function, lines_mean}
use Rattle.v_frame_convert.proofs.rows.halve.downscale_to_edge.Goals as goal

pub loop-y-init : goal.loop-y-init
loop-y-init g c = none_written c.args.width c.args.height c.args.stride _ c.args.buffer.now

pub loop-y-preserved : goal.loop-y-preserved
loop-y-preserved g c =
    let w = c.args.width in let h = c.args.height in let s = c.args.stride in let y = c.loop-y.y in
    let rows = c.args.source.now in let xs = c.loop-y.buffer in let row = c.halve_to_edge.new.row in
    let form = g.T.Pixel.form in let start = s * y in
    let top = c.visible_row-top.result.now in let bottom = c.visible_row-bottom.result.now in
    let fit : RowsFit w h s (length xs) = rw (c.loop-y.auto.buffer) c.requires.fit in
    let high : y < h = omega arith in
    let ends = row_ends w h s (length xs) y fit high in
    let cut : start + w - start ≡ w = omega arith in
    let part = length-take-le w (drop start xs) (omega (arith, length-drop start xs, ends)) in
    let long : length row ≡ w = rw (cut, part) at c.halve_to_edge.auto.row in
    let second : c.min.result ≡ min (2 * y + 1) (length rows - 1) =
    c.min.ensures ∙ ap (λ n. min (2 * y + 1) (n - 1)) c.height-last.ensures.value in
    let under = subst (λ n. slice_get rows n ≡ Some bottom) second c.visible_row-bottom.ensures.value in
    let pairs : Half ≢ Quarter = λ same. cc in
    let line : ℕ → List g.row.T.Denot = λ k.
    map (λ x. form.pixel_of (block_mean form (places Half x) (places Half k) rows)) (range_with_len 0 w) in
    let made : row ≡ line y =
    is_from_function (λ x. form.pixel_of (block_mean form (places Half x) (places Half y) rows)) w row long
    (λ x x_low. c.halve_to_edge.ensures x (omega (arith, x_low, long)) ∙ ap (λ m. Some (form.pixel_of m))
    (sym (lines_mean form (places Half x) rows Half y h top bottom pairs c.requires.high high
    c.visible_row-top.ensures.value under))) in
    let read = slice_get-from_function line h y high in
    rw cut (one_more_written w h s (scaled form form.pixel_of Half Half w h rows) c.args.buffer.now xs row y
    c.requires.fit high c.loop-y.auto.buffer (rw made read) long c.loop-y.invariant)

pub returns-clause-table : goal.returns-clause-table
returns-clause-table g c =
    all_written c.args.width c.args.height c.args.stride _ c.args.buffer.now c.loop-y.buffer c.loop-y.y
    (length-map-range_with_len _ 0 c.args.height) c.loop-y-test.false c.loop-y.invariant
