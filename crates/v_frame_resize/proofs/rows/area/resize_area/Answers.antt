-- The row of means is written.
use Rattle.std.proofs.Common.{◌≡◌, ◌+◌, ◌-◌, ◌*◌, ◌<◌, length, drop, Some, arith, length-take-le, length-drop}
use Rattle.v_frame_raster.proofs.tables.StridedWrites.{row_ends}
use Rattle.v_frame_resize.specs.Resize.{area_mean}
use Rattle.v_frame_resize.proofs.PixelsWritten.{no_pixels, one_more_row}
use Rattle.v_frame_resize.proofs.rows.area.resize_area.Goals as goal

pub loop-y-init : goal.loop-y-init
loop-y-init g c = no_pixels _ c.args.width c.args.height c.args.stride c.args.buffer.now

pub loop-y-preserved : goal.loop-y-preserved
loop-y-preserved g c =
    let w = c.args.width in let h = c.args.height in let s = c.args.stride in let y = c.loop-y.y in
    let xs = c.loop-y.buffer in let start = s * y in
    let high : y < h = omega arith in
    let ends = row_ends w h s (length c.args.buffer.now) y c.requires.fit high in
    let cut : start + w - start ≡ w = omega arith in
    let part = length-take-le w (drop start xs) (omega (arith, length-drop start xs, ends, c.loop-y.auto.buffer)) in
    one_more_row (λ x k. Some (g.T.Pixel.form.pixel_of (area_mean g.T.Pixel.form c.args.source.now w h x k))) w h s
    c.args.buffer.now xs c.resize_row.new.row y c.requires.fit high c.loop-y.auto.buffer c.resize_row.auto.row
    (λ x across. rw (cut, part) at (c.resize_row.ensures x (rw (cut, part) across))) c.loop-y.invariant

pub returns-clause-pixels : goal.returns-clause-pixels
returns-clause-pixels g c = λ x y across down. c.loop-y.invariant.pixels y (omega arith) x across

pub returns-clause-rest : goal.returns-clause-rest
returns-clause-rest g c = c.loop-y.invariant.rest
