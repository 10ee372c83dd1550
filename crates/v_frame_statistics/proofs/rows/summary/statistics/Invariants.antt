-- The rows processed so far are summed, and the pixels are their minimum and maximum.
use Rattle.std.proofs.Common.{◌*◌, take}
use Rattle.v_frame.specs.Prelude.{row_major}
use Rattle.v_frame_statistics.specs.Extremes.{IsGreatest, IsLeast}
use Rattle.v_frame_statistics.proofs.SumSteps.{SummedAbove}
use Rattle.v_frame_statistics.proofs.rows.summary.statistics.Given as goal

abbrev pub invariant-loop-y : goal.invariant-loop-y
invariant-loop-y g l = record {
  values : SummedAbove g.T.Pixel.form.value 65536 l.rows l.y l.sum;
  squares : SummedAbove (λ p. g.T.Pixel.form.value p * g.T.Pixel.form.value p) 4294967296 l.rows l.y l.sum_of_squares;
  least : IsLeast g.T.Pixel.form.value (row_major (take l.y l.rows)) l.minimum;
  greatest : IsGreatest g.T.Pixel.form.value (row_major (take l.y l.rows)) l.maximum;
}
