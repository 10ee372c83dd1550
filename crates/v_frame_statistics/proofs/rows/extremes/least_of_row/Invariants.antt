-- The pixel is the minimum so far.
use Rattle.std.proofs.Common.{take}
use Rattle.v_frame_statistics.specs.Extremes.{IsLeast}
use Rattle.v_frame_statistics.proofs.rows.extremes.least_of_row.Given as goal

abbrev pub invariant-loop-x : goal.invariant-loop-x
invariant-loop-x g l = IsLeast g.T.Pixel.form.value (take l.x l.row) l.least
