-- A row of one repeated pixel is a `replicate` of it.
use Rattle.std.proofs.Common.{◌≡◌, ◌+◌, ◌-◌, ◌*◌, ◌<◌, List, length, drop, replicate, ap, ◌∙◌, arith, length-take-le}
use Rattle.std.proofs.Common.{length-drop}
use Rattle.std.proofs.lemmas.List.{length-replicate}
use Rattle.v_frame_raster.proofs.tables.Parts.{slice_get-replicate}
use Rattle.v_frame_raster.proofs.tables.StridedWrites.{row_ends, none_written, one_more_written, all_written}
use Rattle.v_frame_ops.proofs.rows.change.fill.Goals as goal

pub loop-y-init : goal.loop-y-init
loop-y-init g c = none_written c.args.width c.args.height c.args.stride _ c.args.buffer.now

pub loop-y-preserved : goal.loop-y-preserved
loop-y-preserved g c =
    let w = c.args.width in let h = c.args.height in let s = c.args.stride in let y = c.loop-y.y in
    let xs = c.loop-y.buffer in let row = c.fill_row.new.row in let start = s * y in
    let filled : List g.row.T.Denot = replicate w c.args.pixel in
    let high : y < h = omega arith in
    let ends = row_ends w h s (length c.args.buffer.now) y c.requires high in
    let cut : start + w - start ≡ w = omega arith in
    let part = length-take-le w (drop start xs) (omega (arith, length-drop start xs, ends, c.loop-y.auto.buffer)) in
    let is : row ≡ filled = rw (cut, part) at c.fill_row.ensures in
    let long : length row ≡ w = ap length is ∙ length-replicate w c.args.pixel in
    rw cut (one_more_written w h s (replicate h filled) c.args.buffer.now xs row y c.requires high c.loop-y.auto.buffer
    (rw is (slice_get-replicate h filled y high)) long c.loop-y.invariant)

pub returns-clause-table : goal.returns-clause-table
returns-clause-table g c =
    let rows = replicate c.args.height (replicate c.args.width c.args.pixel) in
    all_written c.args.width c.args.height c.args.stride rows c.args.buffer.now c.loop-y.buffer c.loop-y.y
    (length-replicate c.args.height (replicate c.args.width c.args.pixel)) (omega arith) c.loop-y.invariant

pub returns-clause-rest : goal.returns-clause-rest
returns-clause-rest g c = c.loop-y.invariant.rest
