-- The pixels processed so far are summed.
use Rattle.std.proofs.Common.{◌≡◌, take}
use Rattle.v_frame_measures.specs.PixelSums.{sums_of, AreSumsOver}
use Rattle.v_frame_measures.proofs.similarity.sums.sums_of_pixels.Given as goal

abbrev pub invariant-loop-i : goal.invariant-loop-i
invariant-loop-i g l = record {
  so_far : l.sums ≡ sums_of g.T.Pixel.form.value (take l.i l.p) (take l.i l.q);
  bound : AreSumsOver l.i l.sums;
}
