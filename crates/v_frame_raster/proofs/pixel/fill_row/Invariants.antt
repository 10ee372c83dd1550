-- The pixels so far have the given value.
use Rattle.std.proofs.Common.{◌≡◌, length, replicate, take}
use Rattle.v_frame_raster.proofs.pixel.fill_row.Given as goal

abbrev pub invariant-loop-x : goal.invariant-loop-x
invariant-loop-x g l = record {
  filled : take l.x l.row ≡ replicate l.x l.pixel;
  count : length l.row ≡ length l.fn.row;
}
