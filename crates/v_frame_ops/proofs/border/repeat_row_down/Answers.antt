-- The buffer keeps its length, and the row that is written is a copy.
use Rattle.std.proofs.Common.{◌-◌, ◌+◌, refl, ◌∙◌, arith}
use Rattle.v_frame.specs.Prelude.{raster, table_of}
use Rattle.v_frame_ops.proofs.Changed.{CopiedBelow, with_length_kept, set_same, one_more_copied}
use Rattle.v_frame_ops.proofs.border.repeat_row_down.Goals as goal

pub visible_rows_mut-row-requires-clause-whole : goal.visible_rows_mut-row-requires-clause-whole
visible_rows_mut-row-requires-clause-whole g c = record
    { fits = c.requires.whole.fits; whole = c.loop-y.auto.buffer ∙ c.requires.whole.whole }

pub loop-y-preserved : goal.loop-y-preserved
loop-y-preserved g c =
    let rows = c.visible_rows_mut-row.ensures in
    let row = c.visible_rows_mut-row.result.0.now in
    let wrote = rows.written row c.copy_from_slice.new.self refl c.copy_from_slice.ensures.len in
    let old = table_of (raster c.args.whole c.args.buffer.now) in
    let now = table_of (raster c.args.whole c.loop-y.buffer) in
    with_length_kept (λ entries. CopiedBelow c.args.end (c.args.end - 1) old (table_of (raster c.args.whole entries))
    (c.loop-y.y + 1)) c.loop-y.buffer _
    (omega arith)
    (rw (wrote.table, set_same now (c.args.end - 1) row rows.first, c.copy_from_slice.ensures.after)
    (one_more_copied c.args.end (c.args.end - 1) old now c.loop-y.y row _ c.loop-y.invariant c.loop-y.auto.y
    rows.second rows.first
    (c.loop-y.invariant.above (c.args.end - 1) (omega arith))))
