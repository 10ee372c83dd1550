-- The loop step: one more row.
use Rattle.std.proofs.Common.{◌≡◌, ◌+◌, ◌*◌, cond, arith}
use Rattle.v_frame.specs.Prelude.{width_of}
use Rattle.v_frame_statistics.proofs.ListSums.{sum_by-row}
use Rattle.v_frame_statistics.proofs.rows.counts.count_pixels.Goals as goal

pub loop-y-preserved : goal.loop-y-preserved
loop-y-preserved g c = record {
  so_far = λ t says. omega (
    arith,
    c.count_in_row-count.ensures.value t says,
    c.loop-y.invariant.so_far t says,
    sum_by-row (λ p. cond (t p) 1 0) c.args.rows.now c.loop-y.y c.visible_row.result.now c.visible_row.ensures.value,
  );
  bound =
      let rows = c.loop-y.y in let width = width_of c.args.rows.now in
      let next : (rows + 1) * width ≡ rows * width + width = omega arith in
      omega (arith, next, c.count_in_row-count.ensures.bound, c.visible_row.ensures.wide, c.loop-y.invariant.bound);
}
