-- The encoded bytes, followed by the bytes of the remaining pixels, are the bytes of all pixels.
use Rattle.std.proofs.Common.{◌≡◌, ◌+◌, ◌≤◌, ◌++◌, length, take}
use Rattle.v_frame.specs.Prelude.{bytes_of_pixels}
use Rattle.v_frame_planar.specs.Pending.{pixels_pending, rows_behind}
use Rattle.v_frame_planar.proofs.pending.Pending.fill.Given as goal

abbrev pub invariant-loop-block : goal.invariant-loop-block
invariant-loop-block g l = record {
  within : l.filled ≤ length l.block;
  bytes : bytes_of_pixels g.T.Pixel.form (pixels_pending l.fn.self) ≡ take l.filled l.block ++ bytes_of_pixels
      g.T.Pixel.form (pixels_pending l.self);
}

abbrev pub decreases-loop-block : goal.decreases-loop-block
decreases-loop-block g l = length (pixels_pending l.self) + rows_behind l.self
