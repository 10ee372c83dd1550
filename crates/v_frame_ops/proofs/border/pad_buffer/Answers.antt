-- Both tables have the same size and the same pixels.
use Rattle.std.proofs.Common.{◌≡◌, length, sym, ◌∙◌, arith}
use Rattle.v_frame.specs.Prelude.{Raster, raster, alloc_size_of, table_of}
use Rattle.v_frame_raster.proofs.tables.Pictures.{length-shown}
use Rattle.v_frame_raster.proofs.tables.Places.{rows_are_wide}
use Rattle.v_frame_raster.proofs.tables.ListItems.{same_by_pixel_at}
use Rattle.v_frame_ops.proofs.border.pad_buffer.Goals as goal

pub returns-clause-table : goal.returns-clause-table
returns-clause-table g c =
    let old : Raster g.row.T.Denot = raster c.args.geometry c.args.buffer.now in
    let new : Raster g.row.T.Denot = raster c.args.geometry c.continue_picture.new.buffer in
    let whole : length new.buffer ≡ alloc_size_of c.args.geometry = c.continue_picture.auto.buffer ∙ c.requires.whole in
    same_by_pixel_at c.args.geometry.width (table_of new) (table_of old) (length-shown new ∙ sym (length-shown old))
    (rows_are_wide new whole)
    (rows_are_wide old c.requires.whole) (λ x y across down. c.continue_picture.ensures.visible x y across
    (omega (arith, down, length-shown new)))

pub returns-clause-padded : goal.returns-clause-padded
returns-clause-padded g c = rw (returns-clause-table g c) c.continue_picture.ensures.padded
