-- The columns processed so far are summed.
use Rattle.std.proofs.Common.{[], ◌∷◌}
use Rattle.v_frame_measures.proofs.Columns.{SummedColumns}
use Rattle.v_frame_measures.proofs.similarity.columns.ColumnSums.sum_parts.Given as goal

abbrev pub invariant-loop-i : goal.invariant-loop-i
invariant-loop-i g l =
    SummedColumns g.T.Pixel.form.value (l.p0 ∷ l.p1 ∷ l.p2 ∷ l.p3 ∷ []) (l.q0 ∷ l.q1 ∷ l.q2 ∷ l.q3 ∷ []) l.self l.i
