-- The windows processed so far are added, and the columns of the left half of the next window are summed.
use Rattle.std.proofs.Common.{◌≡◌, ◌*◌, map}
use Rattle.std.specs.List.{range_with_len}
use Rattle.v_frame_measures.specs.PixelSums.{sums_of_rectangle, AreSumsOver}
use Rattle.v_frame_measures.specs.Ssim.{total, window_at}
use Rattle.v_frame_measures.proofs.similarity.line_in.Given as goal

abbrev pub invariant-loop-x : goal.invariant-loop-x
invariant-loop-x g l = record {
  so_far : g.F.LineSum.float l.sum ≡ total g.F.LineSum.format
      (map (λ x. window_at g.T.Pixel.form l.constants l.a l.b x l.y) (range_with_len 0 l.x));
  left : l.left ≡ sums_of_rectangle g.T.Pixel.form.value (4 * l.x) (4 * l.y) 4 8 l.a l.b;
  bound : AreSumsOver 32 l.left;
}
