-- A row of the source, with its index counted from one of the ends and its pixels in one of the directions, is a row of
-- the flipped table.
use Rattle.std.proofs.Common.{◌≡◌, ◌+◌, ◌-◌, ◌*◌, ◌<◌, length, Some, slice_get, sym, ◌∙◌, ap, arith}
use Rattle.v_frame_raster.proofs.tables.StridedWrites.{none_written, one_more_written, all_written}
use Rattle.v_frame_turn.specs.Turning.{flipped, list_from}
use Rattle.v_frame_turn.proofs.Flipped.{flipped_row, height_of_flipped, length-list_from}
use Rattle.v_frame_turn.proofs.rows.flip.flip.Goals as goal

pub loop-y-init : goal.loop-y-init
loop-y-init g c = none_written c.args.width c.args.height c.args.stride _ c.args.buffer.now

pub loop-y-preserved : goal.loop-y-preserved
loop-y-preserved g c =
    let w = c.args.width in let h = c.args.height in let s = c.args.stride in let y = c.loop-y.y in
    let rows = c.args.source.now in let start = s * y in let shown = c.visible_row-row.result.now in
    let high : y < h = omega arith in
    let cut : start + w - start ≡ w = omega arith in
    let wide : length shown ≡ w = c.visible_row-row.ensures.wide ∙ c.requires.wide in
    let row = c.write_row.new.target in
    let is : row ≡ list_from c.args.mirrored shown = c.write_row.ensures in
    let long : length row ≡ w = ap length is ∙ length-list_from c.args.mirrored shown ∙ wide in
    let made : slice_get (flipped c.args.from_bottom c.args.mirrored rows) y ≡ Some row =
    flipped_row rows h c.args.from_bottom c.args.mirrored y _ shown c.requires.high high c.counted.ensures.value
    c.visible_row-row.ensures.value ∙ ap Some (sym is) in
    rw cut (one_more_written w h s (flipped c.args.from_bottom c.args.mirrored rows) c.args.buffer.now c.loop-y.buffer row y
    c.requires.fit high c.loop-y.auto.buffer made long c.loop-y.invariant)

pub returns-clause-table : goal.returns-clause-table
returns-clause-table g c =
    let rows = c.args.source.now in
    all_written c.args.width c.args.height c.args.stride (flipped c.args.from_bottom c.args.mirrored rows) c.args.buffer.now
    c.loop-y.buffer c.loop-y.y
    (height_of_flipped c.args.from_bottom c.args.mirrored rows ∙ c.requires.high)
    (omega arith) c.loop-y.invariant

pub returns-clause-rest : goal.returns-clause-rest
returns-clause-rest g c = c.loop-y.invariant.rest
