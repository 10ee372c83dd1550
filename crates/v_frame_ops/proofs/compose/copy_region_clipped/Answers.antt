-- The rows that are written are the visible rows of the target.
use Rattle.std.proofs.Common.{ap, ◌∙◌, arith}
use Rattle.std.proofs.lemmas.Int.{ints}
use Rattle.v_frame.specs.Prelude.{pixel_at}
use Rattle.v_frame_ops.proofs.compose.copy_region_clipped.Goals as goal

pub returns-clause-inside : goal.returns-clause-inside
returns-clause-inside g c = λ i j k l wide high wide1 high1 on.
    let source = c.as_rows_ref-source.ensures in
    let lent = c.visible_mut-entries.ensures in
    let copied = c.copy_region_clipped.ensures in
    ap (λ table. pixel_at table k l) (lent.written c.copy_region_clipped.new.buffer copied.rest.count)
    ∙ copied.inside i j k l (omega (arith, wide, source.width)) (omega (arith, high, source.height))
    (omega (arith, wide1, lent.width)) (omega (arith, high1, lent.height))
    (record {
      across = omega (arith, ints, on.across, c.ranges.x);
      down = omega (arith, ints, on.down, c.ranges.y);
    })
    ∙ ap (λ table. pixel_at table i j) source.value

pub returns-clause-beside : goal.returns-clause-beside
returns-clause-beside g c = λ k l none.
    let source = c.as_rows_ref-source.ensures in
    let lent = c.visible_mut-entries.ensures in
    let copied = c.copy_region_clipped.ensures in
    ap (λ table. pixel_at table k l) (lent.written c.copy_region_clipped.new.buffer copied.rest.count)
    ∙ copied.beside k l (λ i j across down on. none i j (omega (arith, across, source.width))
    (omega (arith, down, source.height)) (record {
      across = omega (arith, ints, on.across, c.ranges.x);
      down = omega (arith, ints, on.down, c.ranges.y);
    }))
    ∙ ap (λ table. pixel_at table k l) lent.rows
