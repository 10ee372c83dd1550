-- No difference so far is larger, and the number is one of the differences.
use Rattle.v_frame_measures.specs.Differences.{DifferNoMore, DifferSomewhere}
use Rattle.v_frame_measures.proofs.differences.greatest_of_rows.Given as goal

abbrev pub invariant-loop-x : goal.invariant-loop-x
invariant-loop-x g l = record {
  bound : DifferNoMore g.T.Pixel.form.value l.row l.other l.x (g.T.Pixel.form.value l.greatest);
  there : DifferSomewhere g.T.Pixel.form.value l.row l.other (g.T.Pixel.form.value l.greatest);
}
