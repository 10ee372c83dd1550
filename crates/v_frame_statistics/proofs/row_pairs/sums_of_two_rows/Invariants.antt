-- The pixels of the blocks processed so far are summed.
use Rattle.std.proofs.Common.{◌*◌}
use Rattle.std.specs.Prelude.{zip}
use Rattle.v_frame_statistics.proofs.SumSteps.{SummedBefore}
use Rattle.v_frame_statistics.proofs.row_pairs.sums_of_two_rows.Given as goal

abbrev pub invariant-loop-block : goal.invariant-loop-block
invariant-loop-block g l = record {
  first : SummedBefore g.T.Pixel.form.value 4294967296 l.a (4096 * l.block) l.first;
  second : SummedBefore g.T.Pixel.form.value 4294967296 l.b (4096 * l.block) l.second;
  first_squares : SummedBefore (λ p. g.T.Pixel.form.value p * g.T.Pixel.form.value p) 4294967296
      l.a (4096 * l.block) l.first_squares;
  second_squares : SummedBefore (λ p. g.T.Pixel.form.value p * g.T.Pixel.form.value p) 4294967296
      l.b (4096 * l.block) l.second_squares;
  products : SummedBefore (λ pair. g.T.Pixel.form.value pair.0 * g.T.Pixel.form.value pair.1) 4294967296
      (zip l.a l.b) (4096 * l.block) l.products;
}
