-- The rows that are blended are a rectangle of the plane.
use Rattle.std.proofs.Common.{◌<◌, ◌∙◌, arith}
use Rattle.v_frame.specs.Prelude.{table_of}
use Rattle.v_frame_ops.proofs.Mapped.{pixel_within}
use Rattle.v_frame_ops.proofs.compose.blend_region_with_mask.Goals as goal

pub returns-clause-inside : goal.returns-clause-inside
returns-clause-inside g c = λ i j p q weight is above masked.
    let lent = c.visible_region_mut-entries.ensures in
    let within = pixel_within (table_of c.args.source.now) c.width.result i j q c.width.ensures.rows above in
    let down : j < c.height.result = omega (arith, within.1, c.height.ensures.table) in
    let rest = rw (lent.width, lent.height) at c.blend_with_mask.ensures.rest in
    let blended = rw (lent.width, lent.height) at c.blend_with_mask.ensures.pixels in
    (lent.written c.blend_with_mask.new.buffer rest).inside i j within.0 down
    ∙ blended i j p q weight (lent.rows i j within.0 down ∙ is) (rw (c.as_rows_ref-source.ensures.value) above)
    (rw (c.as_rows_ref-mask.ensures.value) masked)
