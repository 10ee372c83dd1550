-- The pixels processed so far are summed.
use Rattle.std.proofs.Common.{◌≡◌, ◌*◌, ◌≤◌, take}
use Rattle.v_frame_statistics.specs.Sums.{sum_of_values}
use Rattle.v_frame_statistics.proofs.row_sums.values_of_block.Given as goal

abbrev pub invariant-loop-x : goal.invariant-loop-x
invariant-loop-x g l = record {
  so_far : l.sum ≡ sum_of_values g.T.Pixel.form.value (take l.x l.block);
  bound : l.sum ≤ 65536 * l.x;
}
