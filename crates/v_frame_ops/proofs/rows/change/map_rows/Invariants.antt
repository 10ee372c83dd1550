-- The rows processed so far are results of the closure, and everything else is unchanged.
use Rattle.v_frame.specs.Prelude.{strided_rows, KeepsRest}
use Rattle.v_frame_ops.specs.Rows.{MapsItems}
use Rattle.v_frame_ops.proofs.Changed.{ChangedBelow}
use Rattle.v_frame_ops.proofs.rows.change.map_rows.Given as goal

abbrev pub invariant-loop-y : goal.invariant-loop-y
invariant-loop-y g l = record {
  rows : ChangedBelow (λ k. MapsItems (goal.F-post g l.change))
      (strided_rows l.width l.height l.stride l.initial.buffer)
      (strided_rows l.width l.height l.stride l.buffer) l.y;
  rest : KeepsRest l.width l.height l.stride l.initial.buffer l.buffer;
}
