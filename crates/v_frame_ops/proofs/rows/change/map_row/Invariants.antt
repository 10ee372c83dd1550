-- The pixels processed so far are results of the closure, and the others are unchanged.
use Rattle.v_frame_ops.proofs.Changed.{ChangedBelow}
use Rattle.v_frame_ops.proofs.rows.change.map_row.Given as goal

abbrev pub invariant-loop-x : goal.invariant-loop-x
invariant-loop-x g l = ChangedBelow (λ k. goal.F-post g l.change) l.fn.row l.row l.x
