-- The row is overwritten in its place, and everything else is unchanged.
use Rattle.std.proofs.Common.{List, slice_set, sym, ◌∙◌, ap}
use Rattle.v_frame_raster.specs.Table.{overwritten_row, with_item_by}
use Rattle.v_frame_raster.specs.Raster.{table_of}
use Rattle.v_frame.proofs.replay.row_writes.overwrite_row.Goals as goal

pub returns-then-y-height-clause-table : goal.returns-then-y-height-clause-table
returns-then-y-height-clause-table g c =
    let rows = table_of c.args.plane.now in
    let y = c.args.y in
    let overwritten : List g.row.T.Denot → List g.row.T.Denot = λ row. overwritten_row row c.args.writes.now in
    (c.visible_row_mut.ensures.written c.overwrite.new.row c.overwrite.auto.row).table ∙ ap (slice_set rows y)
    c.overwrite.ensures ∙
    sym (ap (with_item_by overwritten rows y) c.visible_row_mut.ensures.value)

pub returns-then-y-height-clause-border : goal.returns-then-y-height-clause-border
returns-then-y-height-clause-border g c =
    let written = c.visible_row_mut.ensures.written c.overwrite.new.row c.overwrite.auto.row in
    λ i. (written.geometry i, written.border i)
