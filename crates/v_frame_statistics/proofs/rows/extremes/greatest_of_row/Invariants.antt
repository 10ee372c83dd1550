-- The pixel is the maximum so far.
use Rattle.std.proofs.Common.{take}
use Rattle.v_frame_statistics.specs.Extremes.{IsGreatest}
use Rattle.v_frame_statistics.proofs.rows.extremes.greatest_of_row.Given as goal

abbrev pub invariant-loop-x : goal.invariant-loop-x
invariant-loop-x g l = IsGreatest g.T.Pixel.form.value (take l.x l.row) l.greatest
