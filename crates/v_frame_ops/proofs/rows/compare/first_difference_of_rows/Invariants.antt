-- The pixels processed so far are equal.
use Rattle.v_frame_ops.specs.Compare.{SameBelow}
use Rattle.v_frame_ops.proofs.rows.compare.first_difference_of_rows.Given as goal

abbrev pub invariant-loop-x : goal.invariant-loop-x
invariant-loop-x g l = SameBelow l.row l.other l.x
