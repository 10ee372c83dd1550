-- The pixel is the maximum of the rows processed so far.
use Rattle.std.proofs.Common.{take}
use Rattle.v_frame.specs.Prelude.{row_major}
use Rattle.v_frame_statistics.specs.Extremes.{IsGreatest}
use Rattle.v_frame_statistics.proofs.rows.extremes.maximum.Given as goal

abbrev pub invariant-loop-y : goal.invariant-loop-y
invariant-loop-y g l = IsGreatest g.T.Pixel.form.value (row_major (take l.y l.rows)) l.greatest
