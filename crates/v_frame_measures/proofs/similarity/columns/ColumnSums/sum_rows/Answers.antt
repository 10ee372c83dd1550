-- The parts of four rows are parts of the pictures.
use Rattle.std.proofs.Common.{◌≡◌, ◌+◌, ◌-◌, arith}
use Rattle.v_frame_measures.proofs.Columns.{part_is_narrow, parts_summed}
use Rattle.v_frame_measures.proofs.similarity.columns.ColumnSums.sum_rows.Goals as goal

pub sum_parts-requires-clause-p0 : goal.sum_parts-requires-clause-p0
sum_parts-requires-clause-p0 g c κs within =
    let few : c.args.x + 32 - c.args.x ≡ 32 = omega arith in
    part_is_narrow g.T.Pixel.form.value c.args.a.now c.args.y c.args.x _ c.visible_row-p0.result.now
    c.requires.first c.visible_row-p0.ensures.value few
    (omega (arith, few, c.visible_row-p0.ensures.wide, c.requires.across))

pub sum_parts-requires-clause-p1 : goal.sum_parts-requires-clause-p1
sum_parts-requires-clause-p1 g c κs within =
    let few : c.args.x + 32 - c.args.x ≡ 32 = omega arith in
    part_is_narrow g.T.Pixel.form.value c.args.a.now (c.args.y + 1) c.args.x _ c.visible_row-p1.result.now
    c.requires.first c.visible_row-p1.ensures.value few
    (omega (arith, few, c.visible_row-p1.ensures.wide, c.requires.across))

pub sum_parts-requires-clause-p2 : goal.sum_parts-requires-clause-p2
sum_parts-requires-clause-p2 g c κs within =
    let few : c.args.x + 32 - c.args.x ≡ 32 = omega arith in
    part_is_narrow g.T.Pixel.form.value c.args.a.now (c.args.y + 2) c.args.x _ c.visible_row-p2.result.now
    c.requires.first c.visible_row-p2.ensures.value few
    (omega (arith, few, c.visible_row-p2.ensures.wide, c.requires.across))

pub sum_parts-requires-clause-p3 : goal.sum_parts-requires-clause-p3
sum_parts-requires-clause-p3 g c κs within =
    let few : c.args.x + 32 - c.args.x ≡ 32 = omega arith in
    part_is_narrow g.T.Pixel.form.value c.args.a.now (c.args.y + 3) c.args.x _ c.visible_row-p3.result.now
    c.requires.first c.visible_row-p3.ensures.value few
    (omega (arith, few, c.visible_row-p3.ensures.wide, c.requires.across))

pub sum_parts-requires-clause-q0 : goal.sum_parts-requires-clause-q0
sum_parts-requires-clause-q0 g c κs within =
    let few : c.args.x + 32 - c.args.x ≡ 32 = omega arith in
    part_is_narrow g.T.Pixel.form.value c.args.b.now c.args.y c.args.x _ c.visible_row-q0.result.now
    c.requires.second c.visible_row-q0.ensures.value few
    (omega (arith, few, c.visible_row-q0.ensures.wide, c.requires.across, c.requires.wide))

pub sum_parts-requires-clause-q1 : goal.sum_parts-requires-clause-q1
sum_parts-requires-clause-q1 g c κs within =
    let few : c.args.x + 32 - c.args.x ≡ 32 = omega arith in
    part_is_narrow g.T.Pixel.form.value c.args.b.now (c.args.y + 1) c.args.x _ c.visible_row-q1.result.now
    c.requires.second c.visible_row-q1.ensures.value few
    (omega (arith, few, c.visible_row-q1.ensures.wide, c.requires.across, c.requires.wide))

pub sum_parts-requires-clause-q2 : goal.sum_parts-requires-clause-q2
sum_parts-requires-clause-q2 g c κs within =
    let few : c.args.x + 32 - c.args.x ≡ 32 = omega arith in
    part_is_narrow g.T.Pixel.form.value c.args.b.now (c.args.y + 2) c.args.x _ c.visible_row-q2.result.now
    c.requires.second c.visible_row-q2.ensures.value few
    (omega (arith, few, c.visible_row-q2.ensures.wide, c.requires.across, c.requires.wide))

pub sum_parts-requires-clause-q3 : goal.sum_parts-requires-clause-q3
sum_parts-requires-clause-q3 g c κs within =
    let few : c.args.x + 32 - c.args.x ≡ 32 = omega arith in
    part_is_narrow g.T.Pixel.form.value c.args.b.now (c.args.y + 3) c.args.x _ c.visible_row-q3.result.now
    c.requires.second c.visible_row-q3.ensures.value few
    (omega (arith, few, c.visible_row-q3.ensures.wide, c.requires.across, c.requires.wide))

pub returns : goal.returns
returns g c =
    let value = g.T.Pixel.form.value in let a = c.args.a.now in let b = c.args.b.now in
    let x = c.args.x in let y = c.args.y in let n = x + 32 - x in
    record {
      value =
          parts_summed value n x y a b _ _ _ _ _ _ _ _ _ (omega arith) c.visible_row-p0.ensures.value
          c.visible_row-p1.ensures.value c.visible_row-p2.ensures.value c.visible_row-p3.ensures.value
          c.visible_row-q0.ensures.value c.visible_row-q1.ensures.value c.visible_row-q2.ensures.value
          c.visible_row-q3.ensures.value c.sum_parts.ensures.value;
      small = c.sum_parts.ensures.small;
    }
