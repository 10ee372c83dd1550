-- The pixel is the minimum of the rows processed so far.
use Rattle.std.proofs.Common.{take}
use Rattle.v_frame.specs.Prelude.{row_major}
use Rattle.v_frame_statistics.specs.Extremes.{IsLeast}
use Rattle.v_frame_statistics.proofs.rows.extremes.minimum.Given as goal

abbrev pub invariant-loop-y : goal.invariant-loop-y
invariant-loop-y g l = IsLeast g.T.Pixel.form.value (row_major (take l.y l.rows)) l.least
