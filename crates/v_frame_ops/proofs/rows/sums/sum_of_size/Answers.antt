-- The loop step: one more row.
use Rattle.std.proofs.Common.{◌≡◌, ◌+◌, ◌*◌, arith}
use Rattle.std.proofs.lemmas.List.{take_all}
use Rattle.v_frame.specs.Prelude.{width_of}
use Rattle.v_frame_ops.proofs.rows.sums.sum_of_size.Goals as goal

pub loop-y-preserved : goal.loop-y-preserved
loop-y-preserved g c =
    let first = c.visible_row in let second = c.visible_row-in-loop-y in let width = width_of c.args.a.now in
    let row = take_all c.args.width first.result.now (omega (arith, first.ensures.wide, c.requires.wide)) in
    let other = take_all c.args.width second.result.now (omega (arith, second.ensures.wide, c.requires.same)) in
    let next = c.differences_add_up.ensures.by_rows c.args.a.now c.args.b.now c.loop-y.y first.result.now
    second.result.now first.ensures.value second.ensures.value
    (omega (arith, first.ensures.wide, second.ensures.wide, c.requires.wide, c.requires.same)) in
    record {
      so_far = omega (arith, c.loop-y.invariant.so_far, next, rw (row, other) at c.of_rows-sum.ensures.value);
      bound =
          let more : (c.loop-y.y + 1) * width ≡ c.loop-y.y * width + width = omega arith in
          omega (arith, more, c.loop-y.invariant.bound, first.ensures.wide, rw row at c.of_rows-sum.ensures.fits);
    }
