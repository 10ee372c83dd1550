-- No difference in the rows processed so far is larger, and the position is the first that has it.
use Rattle.v_frame_measures.proofs.Differing.{GreatestAbove}
use Rattle.v_frame_measures.proofs.differences.greatest_difference_of_rows.Given as goal

abbrev pub invariant-loop-y : goal.invariant-loop-y
invariant-loop-y g l = GreatestAbove g.T.Pixel.form.value l.a l.b l.y l.found
