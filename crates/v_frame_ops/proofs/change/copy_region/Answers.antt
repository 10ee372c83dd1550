-- The rows that are written are a rectangle of the plane.
use Rattle.std.proofs.Common.{ap, ◌∙◌, arith}
use Rattle.v_frame.specs.Prelude.{pixel_at}
use Rattle.v_frame_ops.proofs.change.copy_region.Goals as goal

pub returns-clause-inside : goal.returns-clause-inside
returns-clause-inside g c = λ i j across down.
    let lent = c.visible_region_mut-entries.ensures in
    let rest = rw (lent.width, lent.height) at c.copy_rows.ensures.rest in
    let rows = rw (lent.width, lent.height) at c.copy_rows.ensures.table in
    (lent.written c.copy_rows.new.buffer rest).inside i j (omega (arith, across, c.width.ensures.value))
    (omega (arith, down, c.height.ensures.value))
    ∙ ap (λ table. pixel_at table i j) rows ∙ ap (λ table. pixel_at table i j) c.as_rows_ref-source.ensures.value
