-- Each row is set to results of the closure for the row that was read.
use Rattle.std.proofs.Common.{◌≡◌, ◌+◌, ◌-◌, ◌*◌, ◌<◌, length, drop, arith, length-take-le, length-drop}
use Rattle.std.proofs.Common.{subst, sym, ◌∙◌}
use Rattle.std.proofs.lemmas.Option.{slice_get_within, same_Some}
use Rattle.v_frame.specs.Prelude.{RowsFit}
use Rattle.v_frame_convert.specs.Rows.{GivesItems}
use Rattle.v_frame_convert.proofs.Made.{GivenAt, no_row_made, one_more_row_made, all_given}
use Rattle.v_frame_raster.proofs.tables.Strides.{height_of_rows}
use Rattle.v_frame_raster.proofs.tables.StridedWrites.{row_ends}
use Rattle.v_frame_convert.proofs.rows.map.map_rows.Goals as goal

pub loop-y-init : goal.loop-y-init
loop-y-init g c = no_row_made _ c.args.width c.args.height c.args.stride c.args.buffer.now

pub loop-y-preserved : goal.loop-y-preserved
loop-y-preserved g c =
    let w = c.args.width in let h = c.args.height in let s = c.args.stride in let y = c.loop-y.y in
    let xs = c.loop-y.buffer in let row = c.map_row.new.row in let start = s * y in
    let fit : RowsFit w h s (length xs) = rw (c.loop-y.auto.buffer) c.requires.fit in
    let high : y < h = omega arith in
    let ends = row_ends w h s (length xs) y fit high in
    let cut : start + w - start ≡ w = omega arith in
    let part = length-take-le w (drop start xs) (omega (arith, length-drop start xs, ends)) in
    let long : length row ≡ w = rw (cut, part) at c.map_row.auto.row in
    let gives = goal.F-post g c.args.change.now in
    let made : GivenAt (GivesItems gives) c.args.source.now y row = λ read is.
    subst (λ r. GivesItems gives r row) (same_Some _ _ (sym c.visible_row.ensures.value ∙ is)) c.map_row.ensures in
    rw cut (one_more_row_made (GivenAt (GivesItems gives) c.args.source.now) w h s c.args.buffer.now xs row
    y fit high long made c.loop-y.invariant)

pub returns-clause-rows : goal.returns-clause-rows
returns-clause-rows g c =
    let w = c.args.width in let h = c.args.height in let s = c.args.stride in
    let count = height_of_rows w h s c.loop-y.buffer in
    all_given _ c.args.source.now _ c.loop-y.y c.loop-y.invariant.rows (omega (arith, count)) (λ k row is.
    let within = slice_get_within c.args.source.now k row is in omega arith)

pub returns-clause-rest : goal.returns-clause-rest
returns-clause-rest g c = c.loop-y.invariant.rest
