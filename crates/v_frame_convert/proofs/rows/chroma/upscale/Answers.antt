-- Each row is a copy of the row that it repeats, with its pixels repeated.
use Rattle.std.proofs.Common.{◌≡◌, ◌+◌, ◌-◌, ◌*◌, ◌<◌, length, drop, arith, length-take-le, length-drop, ◌∙◌}
use Rattle.std.proofs.Common.{ap}
use Rattle.v_frame.specs.Prelude.{RowsFit, pixel_at}
use Rattle.v_frame_raster.proofs.tables.StridedWrites.{row_ends, none_written, one_more_written, all_written}
use Rattle.v_frame_convert.specs.Chroma.{upscaled, IsSubsampledSize}
use Rattle.v_frame_convert.proofs.Scaled.{row_is_widened, upscaled_row, height_upscaled, pixel_upscaled}
use Rattle.v_frame_convert.proofs.rows.chroma.upscale.Goals as goal

pub loop-y-init : goal.loop-y-init
loop-y-init g c = none_written c.args.width c.args.height c.args.stride _ c.args.buffer.now

pub loop-y-preserved : goal.loop-y-preserved
loop-y-preserved g c =
    let w = c.args.width in let h = c.args.height in let s = c.args.stride in let y = c.loop-y.y in
    let rx = c.args.ratio_x in let ry = c.args.ratio_y in let rows = c.args.source.now in
    let xs = c.loop-y.buffer in let row = c.repeat_across.new.row in let start = s * y in
    let source = c.visible_row.result.now in
    let fit : RowsFit w h s (length xs) = rw (c.loop-y.auto.buffer) c.requires.fit in
    let high : y < h = omega arith in
    let ends = row_ends w h s (length xs) y fit high in
    let cut : start + w - start ≡ w = omega arith in
    let part = length-take-le w (drop start xs) (omega (arith, length-drop start xs, ends)) in
    let long : length row ≡ w = rw (cut, part) at c.repeat_across.auto.row in
    let counted : IsSubsampledSize w rx (length source) = rw (c.visible_row.ensures.wide) c.requires.wide in
    let is = row_is_widened rx w row source counted long c.repeat_across.ensures in
    let made = upscaled_row rx w ry h rows y source c.requires.high.divides high
    (rw c.quotient.ensures at c.visible_row.ensures.value) in
    rw cut (one_more_written w h s (upscaled rx ry w h rows) c.args.buffer.now xs row y c.requires.fit high
    c.loop-y.auto.buffer (rw is made) long c.loop-y.invariant)

pub returns-clause-table : goal.returns-clause-table
returns-clause-table g c =
    all_written c.args.width c.args.height c.args.stride _ c.args.buffer.now c.loop-y.buffer c.loop-y.y
    (height_upscaled c.args.ratio_x c.args.width c.args.ratio_y c.args.height c.args.source.now c.requires.high)
    c.loop-y-test.false c.loop-y.invariant

pub returns-clause-pixels : goal.returns-clause-pixels
returns-clause-pixels g c = λ x y wide high.
    ap (λ rows. pixel_at rows x y) (returns-clause-table g c)
    ∙ pixel_upscaled c.args.ratio_x c.args.width c.args.ratio_y c.args.height c.args.source.now
    c.requires.wide.divides c.requires.high.divides x y wide high
