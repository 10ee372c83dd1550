-- The pixels processed so far are results of the closure.
use Rattle.v_frame_convert.proofs.Made.{MadeBelow, GivenAt}
use Rattle.v_frame_convert.proofs.rows.map.map_row.Given as goal

abbrev pub invariant-loop-x : goal.invariant-loop-x
invariant-loop-x g l = MadeBelow (GivenAt (goal.F-post g l.change) l.source) l.row l.x
