-- The rows that are blended are a rectangle of the plane.
use Rattle.std.proofs.Common.{◌<◌, ap, ◌∙◌, arith}
use Rattle.v_frame.specs.Prelude.{pixel_at, table_of}
use Rattle.v_frame_ops.specs.Compose.{blended}
use Rattle.v_frame_ops.proofs.Mapped.{combined_pixel, pixel_within}
use Rattle.v_frame_ops.proofs.compose.blend_region.Goals as goal

pub returns-clause-inside : goal.returns-clause-inside
returns-clause-inside g c = λ i j p q is above.
    let lent = c.visible_region_mut-entries.ensures in
    let within = pixel_within (table_of c.args.source.now) c.width.result i j q c.width.ensures.rows above in
    let down : j < c.height.result = omega (arith, within.1, c.height.ensures.table) in
    let rest = rw (lent.width, lent.height) at c.blend.ensures.rest in
    let rows = rw (lent.width, lent.height) at c.blend.ensures.table in
    (lent.written c.blend.new.buffer rest).inside i j within.0 down
    ∙ ap (λ table. pixel_at table i j) rows
    ∙ combined_pixel (blended g.T.Pixel.form 256 c.args.weight) _ _ i j p q (lent.rows i j within.0 down ∙ is)
    (rw (c.as_rows_ref-source.ensures.value) above)
