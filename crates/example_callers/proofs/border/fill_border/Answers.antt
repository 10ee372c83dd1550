-- The visible entries determine the table, and the other entries determine the border.
use Rattle.std.proofs.Common.{length, ◌∙◌, ap, refl}
use Rattle.v_frame.specs.Prelude.{raster, filled}
use Rattle.example_callers.proofs.FilledBorders.{put_back, agrees_with_filled}
use Rattle.example_callers.proofs.border.fill_border.Goals as goal

pub returns-clause-table : goal.returns-clause-table
returns-clause-table g c =
    let p = c.args.plane.now in let new = c.fill_border_places.new.buffer in
    let visible = rw (c.geometry-geometry.ensures.value, c.data_mut.ensures.value) at
    c.fill_border_places.ensures.visible in
    rw (put_back p.buffer new (c.fill_border_places.auto.buffer ∙ ap length c.data_mut.ensures.value))
    ((c.same_entries_same_table.ensures (raster p.geometry new) p refl).table visible)

pub returns-clause-border : goal.returns-clause-border
returns-clause-border g c =
    let p = c.args.plane.now in let new = c.fill_border_places.new.buffer in
    let border = rw c.geometry-geometry.ensures.value at c.fill_border_places.ensures.border in
    rw (put_back p.buffer new (c.fill_border_places.auto.buffer ∙ ap length c.data_mut.ensures.value))
    ((c.same_entries_same_table.ensures (raster p.geometry new) (filled c.args.value p.geometry) refl).border
    (agrees_with_filled p.geometry (c.places_have_marks.ensures p.geometry) c.args.value new border))
