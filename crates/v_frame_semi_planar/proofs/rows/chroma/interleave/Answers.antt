-- Each row that is written is the two rows, interleaved.
use Rattle.std.proofs.Common.{◌≡◌, ◌+◌, ◌-◌, ◌*◌, ◌<◌, length, drop, Some, sym, ◌∙◌, ap, arith}
use Rattle.std.proofs.Common.{length-take-le, length-drop}
use Rattle.v_frame_ops.specs.Change.{combined}
use Rattle.v_frame_raster.proofs.tables.StridedWrites.{row_ends, none_written, one_more_written, all_written}
use Rattle.v_frame_semi_planar.specs.Interleaved.{interleaved}
use Rattle.v_frame_semi_planar.proofs.CombinedLists.{length-combined, slice_get-combined}
use Rattle.v_frame_semi_planar.proofs.rows.chroma.interleave.Goals as goal

pub loop-y-init : goal.loop-y-init
loop-y-init g c = none_written c.args.width c.args.height c.args.stride _ c.args.buffer.now

pub loop-y-preserved : goal.loop-y-preserved
loop-y-preserved g c =
    let w = c.args.width in let h = c.args.height in let s = c.args.stride in let y = c.loop-y.y in
    let xs = c.loop-y.buffer in let row = c.interleave_row.new.row in let start = s * y in
    let high : y < h = omega arith in
    let ends = row_ends w h s (length c.args.buffer.now) y c.requires.fit high in
    let cut : start + w - start ≡ w = omega arith in
    let part = length-take-le w (drop start xs) (omega (arith, length-drop start xs, ends, c.loop-y.auto.buffer)) in
    let long : length row ≡ w = rw (cut, part) at c.interleave_row.auto.row in
    let made = slice_get-combined interleaved c.args.first.now c.args.second.now y _ _
    c.visible_row.ensures.value c.visible_row-in-loop-y.ensures.value ∙ ap Some (sym c.interleave_row.ensures) in
    rw cut (one_more_written w h s (combined interleaved c.args.first.now c.args.second.now) c.args.buffer.now xs row y
    c.requires.fit high c.loop-y.auto.buffer made long c.loop-y.invariant)

pub returns-clause-table : goal.returns-clause-table
returns-clause-table g c =
    let rows = combined interleaved c.args.first.now c.args.second.now in
    all_written c.args.width c.args.height c.args.stride rows c.args.buffer.now c.loop-y.buffer c.loop-y.y
    (length-combined interleaved c.args.first.now c.args.second.now c.requires.second_high ∙ sym c.requires.high)
    (omega arith) c.loop-y.invariant

pub returns-clause-rest : goal.returns-clause-rest
returns-clause-rest g c = c.loop-y.invariant.rest
