-- The pixels of the blocks processed so far are summed.
use Rattle.std.proofs.Common.{◌*◌}
use Rattle.v_frame_statistics.proofs.SumSteps.{SummedBefore}
use Rattle.v_frame_statistics.proofs.row_sums.sums_of_row.Given as goal

abbrev pub invariant-loop-block : goal.invariant-loop-block
invariant-loop-block g l = record {
  values : SummedBefore g.T.Pixel.form.value 65536 l.row (4096 * l.block) l.values;
  squares : SummedBefore (λ p. g.T.Pixel.form.value p * g.T.Pixel.form.value p) 4294967296
      l.row (4096 * l.block) l.squares;
}
