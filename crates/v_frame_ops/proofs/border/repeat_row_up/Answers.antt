-- The buffer keeps its length, and the row that is written is a copy.
use Rattle.std.proofs.Common.{◌+◌, refl, ◌∙◌, arith}
use Rattle.v_frame.specs.Prelude.{raster, table_of}
use Rattle.v_frame_ops.proofs.Changed.{CopiedBelow, with_length_kept, set_same, one_more_copied}
use Rattle.v_frame_raster.proofs.tables.Lists.{others_are_read}
use Rattle.v_frame_ops.proofs.border.repeat_row_up.Goals as goal

pub visible_rows_mut-above-requires-clause-whole : goal.visible_rows_mut-above-requires-clause-whole
visible_rows_mut-above-requires-clause-whole g c = record
    { fits = c.requires.whole.fits; whole = c.loop-y.auto.buffer ∙ c.requires.whole.whole }

pub loop-y-preserved : goal.loop-y-preserved
loop-y-preserved g c =
    let rows = c.visible_rows_mut-above.ensures in
    let row = c.visible_rows_mut-above.result.1.now in
    let wrote = rows.written c.copy_from_slice.new.self row c.copy_from_slice.ensures.len refl in
    let old = table_of (raster c.args.whole c.args.buffer.now) in
    let now = table_of (raster c.args.whole c.loop-y.buffer) in
    let kept = others_are_read now c.loop-y.y c.args.from row (omega arith) ∙ rows.second in
    with_length_kept (λ entries. CopiedBelow 0 c.args.from old (table_of (raster c.args.whole entries))
    (c.loop-y.y + 1)) c.loop-y.buffer _ (omega arith)
    (rw (wrote.table, c.copy_from_slice.ensures.after, set_same _ c.args.from row kept)
    (one_more_copied 0 c.args.from old now c.loop-y.y row _ c.loop-y.invariant (omega arith) rows.first rows.second
    (c.loop-y.invariant.below c.args.from (omega arith))))
