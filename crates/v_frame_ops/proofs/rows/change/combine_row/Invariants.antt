-- The pixels processed so far are results of the closure, and the others are unchanged.
use Rattle.v_frame_ops.proofs.Changed.{ChangedBelow, GivenWith}
use Rattle.v_frame_ops.proofs.rows.change.combine_row.Given as goal

abbrev pub invariant-loop-x : goal.invariant-loop-x
invariant-loop-x g l = ChangedBelow (GivenWith (goal.F-post g l.combine) l.other) l.fn.row l.row l.x
