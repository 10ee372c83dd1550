-- The sum so far plus the sum over the remaining rows is the whole sum, and no row adds more than its bound.
use Rattle.std.proofs.Common.{◌≡◌, ◌+◌, ◌*◌, ◌^◌, ◌≤◌, drop}
use Rattle.std.specs.Prelude.{sum_by, zip}
use Rattle.v_frame.specs.Prelude.{row_major, width_of}
use Rattle.v_frame_ops.proofs.rows.sums.sum_of_size.Given as goal

abbrev pub invariant-loop-y : goal.invariant-loop-y
invariant-loop-y g l = record {
  so_far : l.sum
      + sum_by (λ p. g.D.RowDifference.between p.0 p.1) (zip (row_major (drop l.y l.a)) (row_major (drop l.y l.b)))
      ≡ sum_by (λ p. g.D.RowDifference.between p.0 p.1) (zip (row_major l.a) (row_major l.b));
  bound : l.sum ≤ 2 ^ 32 * (l.y * width_of l.a);
}
