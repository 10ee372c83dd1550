-- A row that was not reached yet is unchanged, so its reverse is a row of the mirrored table.
use Rattle.std.proofs.Common.{◌≡◌, ◌+◌, ◌-◌, ◌*◌, ◌<◌, length, drop, take, map, Some, reverse, slice_get, sym, ◌∙◌, ap}
use Rattle.std.proofs.Common.{arith}
use Rattle.std.proofs.Common.{length-take-le, length-drop}
use Rattle.std.proofs.lemmas.List.{length-map}
use Rattle.v_frame.specs.Prelude.{strided_rows}
use Rattle.v_frame_raster.proofs.tables.Lists.{slice_get-map}
use Rattle.v_frame_raster.proofs.tables.Strides.{height_of_rows, strided_row}
use Rattle.v_frame_raster.proofs.tables.StridedWrites.{row_ends, none_written, one_more_written, all_written}
use Rattle.v_frame_raster.proofs.tables.ListItems.{slice_get-seam}
use Rattle.v_frame_turn.proofs.rows.flip_in_place.flip_horizontal_in_place.Goals as goal

pub loop-y-init : goal.loop-y-init
loop-y-init g c = none_written c.args.width c.args.height c.args.stride _ c.args.buffer.now

pub loop-y-preserved : goal.loop-y-preserved
loop-y-preserved g c =
    let w = c.args.width in let h = c.args.height in let s = c.args.stride in let y = c.loop-y.y in
    let old = c.args.buffer.now in let xs = c.loop-y.buffer in let row = c.turn_row.new.row in let start = s * y in
    let fit = c.requires in
    let shown = strided_rows w h s old in let turned = map reverse shown in
    let high : y < h = omega arith in
    let cut : start + w - start ≡ w = omega arith in
    let ends = row_ends w h s (length old) y fit high in
    let part = take w (drop start xs) in
    let wide : length part ≡ w = length-take-le w (drop start xs)
    (omega (arith, length-drop start xs, ends, c.loop-y.auto.buffer)) in
    let count = height_of_rows w h s old in
    let is : row ≡ reverse part = rw cut at c.turn_row.ensures in
    let long : length row ≡ w = rw (cut, wide) at c.turn_row.auto.row in
    let read : slice_get shown y ≡ Some part =
    sym (slice_get-seam turned shown y (omega (arith, length-map shown reverse, count)) (omega (arith, count)))
    ∙ ap (λ rows. slice_get rows y) (sym c.loop-y.invariant.table) ∙ strided_row w h s xs y fit.apart high in
    let made : slice_get turned y ≡ Some row = slice_get-map reverse shown y part read ∙ ap Some (sym is) in
    rw cut (one_more_written w h s turned old xs row y fit high c.loop-y.auto.buffer made long c.loop-y.invariant)

pub returns-clause-table : goal.returns-clause-table
returns-clause-table g c =
    let shown = strided_rows c.args.width c.args.height c.args.stride c.args.buffer.now in
    all_written c.args.width c.args.height c.args.stride (map reverse shown) c.args.buffer.now c.loop-y.buffer
    c.loop-y.y
    (length-map shown reverse ∙ height_of_rows c.args.width c.args.height c.args.stride c.args.buffer.now) (omega arith)
    c.loop-y.invariant

pub returns-clause-rest : goal.returns-clause-rest
returns-clause-rest g c = c.loop-y.invariant.rest
