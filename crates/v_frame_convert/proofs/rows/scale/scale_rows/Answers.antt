-- Each row is set to the means of two source rows.
use Rattle.std.proofs.Common.{ℕ, ◌≡◌, ◌+◌, ◌-◌, ◌*◌, ◌<◌, List, length, drop, map, Some, slice_get, sym, ◌∙◌, ap}
use Rattle.std.proofs.Common.{subst, arith, length-take-le, length-drop}
use Rattle.std.specs.List.{range_with_len}
use Rattle.std.proofs.lemmas.List.FromFn.{length-map-range_with_len}
use Rattle.v_frame.specs.Prelude.{RowsFit}
use Rattle.v_frame_raster.proofs.tables.StridedWrites.{row_ends, none_written, one_more_written, all_written}
use Rattle.v_frame_convert.specs.Depth.{pixel_of_depth}
use Rattle.v_frame_convert.specs.Scale.{places, scaled, block_mean}
use Rattle.v_frame_convert.specs.ScaledRows.{line_pair}
use Rattle.v_frame_convert.proofs.ScaledTables.{is_from_function, slice_get-from_function, lines_mean}
use Rattle.v_frame_convert.proofs.rows.scale.scale_rows.Goals as goal

pub loop-y-init : goal.loop-y-init
loop-y-init g c = none_written c.args.width c.args.height c.args.stride _ c.args.buffer.now

pub loop-y-preserved : goal.loop-y-preserved
loop-y-preserved g c =
    let w = c.args.width in let h = c.args.height in let s = c.args.stride in let y = c.loop-y.y in
    let rows = c.args.source.now in let xs = c.loop-y.buffer in let row = c.scale_row.new.row in
    let form = g.S.Pixel.form in let across = c.args.across in let down = c.args.down in let start = s * y in
    let pixel = pixel_of_depth g.T.Pixel.form c.args.change.now.from c.args.change.now.to in
    let top = c.visible_row.result.now in let bottom = c.visible_row-in-loop-y.result.now in
    let fit : RowsFit w h s (length xs) = rw (c.loop-y.auto.buffer) c.requires.fit in
    let high : y < h = omega arith in
    let ends = row_ends w h s (length xs) y fit high in
    let cut : start + w - start ≡ w = omega arith in
    let part = length-take-le w (drop start xs) (omega (arith, length-drop start xs, ends)) in
    let long : length row ≡ w = rw (cut, part) at c.scale_row.auto.row in
    let pair : c.lines_at-upper.result ≡ line_pair down y (length rows) =
    c.lines_at-upper.ensures.value ∙ ap (line_pair down y) c.height-lines.ensures.value in
    let is = subst (λ p. slice_get rows p.0 ≡ Some top) pair c.visible_row.ensures.value in
    let under = subst (λ p. slice_get rows p.1 ≡ Some bottom) pair c.visible_row-in-loop-y.ensures.value in
    let line : ℕ → List g.row.T.Denot = λ k.
    map (λ x. pixel (block_mean form (places across x) (places down k) rows)) (range_with_len 0 w) in
    let made : row ≡ line y = is_from_function (λ x. pixel (block_mean form (places across x) (places down y) rows)) w row
    long (λ x x_low. c.scale_row.ensures x (omega (arith, x_low, long)) ∙ ap (λ m. Some (pixel m))
    (sym (lines_mean form (places across x) rows down y h top bottom c.requires.pairs c.requires.high high is under))) in
    let read = slice_get-from_function line h y high in
    rw cut (one_more_written w h s (scaled form pixel across down w h rows) c.args.buffer.now xs row y c.requires.fit
    high c.loop-y.auto.buffer (rw made read) long c.loop-y.invariant)

pub returns-clause-table : goal.returns-clause-table
returns-clause-table g c =
    all_written c.args.width c.args.height c.args.stride _ c.args.buffer.now c.loop-y.buffer c.loop-y.y
    (length-map-range_with_len _ 0 c.args.height) c.loop-y-test.false c.loop-y.invariant
