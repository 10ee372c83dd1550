-- The buffer keeps its length, and the row that is written is the extended row.
use Rattle.std.proofs.Common.{◌≡◌, ◌+◌, slice_get, arith}
use Rattle.v_frame.specs.Prelude.{pixel_at, raster, table_of}
use Rattle.v_frame_ops.specs.Border.{nearest}
use Rattle.v_frame_ops.proofs.Changed.{with_length_kept}
use Rattle.v_frame_ops.proofs.Tables.{pixel_is_moved}
use Rattle.v_frame_ops.proofs.border.extend_row_at.Goals as goal

pub returns-clause-row : goal.returns-clause-row
returns-clause-row g c = λ x across.
    let wrote = c.split_row_mut-row.ensures.written c.extend_row.new.row c.extend_row.auto.row in
    let source = c.args.left + nearest c.args.left c.args.width x in
    let old = table_of (raster c.args.whole c.args.buffer.now) in
    with_length_kept (λ entries. pixel_at (table_of (raster c.args.whole entries)) x c.args.y ≡ pixel_at old source
    c.args.y) c.args.buffer.now _
    (omega arith)
    (rw wrote.table (pixel_is_moved old x c.args.y source c.split_row_mut-row.result.0.now c.extend_row.new.row
    c.split_row_mut-row.ensures.row
    (c.extend_row.ensures x (omega arith))))

pub returns-clause-others : goal.returns-clause-others
returns-clause-others g c = λ k other.
    let wrote = c.split_row_mut-row.ensures.written c.extend_row.new.row c.extend_row.auto.row in
    let old = table_of (raster c.args.whole c.args.buffer.now) in
    with_length_kept (λ entries. slice_get (table_of (raster c.args.whole entries)) k ≡ slice_get old k)
    c.args.buffer.now _ (omega arith)
    (wrote.others k other)
