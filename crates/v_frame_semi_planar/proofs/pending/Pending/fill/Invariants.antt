-- The encoded bytes, followed by the bytes of the remaining samples, are the bytes of all samples.
use Rattle.std.proofs.Common.{◌≡◌, ◌≤◌, ◌++◌, length, take}
use Rattle.v_frame_semi_planar.specs.Pending.{pixels_pending, steps_pending}
use Rattle.v_frame_semi_planar.specs.SemiPlanar.{stored_bytes}
use Rattle.v_frame_semi_planar.proofs.pending.Pending.fill.Given as goal

abbrev pub invariant-loop-block : goal.invariant-loop-block
invariant-loop-block g l = record {
  within : l.filled ≤ length l.block;
  bytes : stored_bytes g.T.Pixel.form l.unused (pixels_pending l.fn.self) ≡ take l.filled l.block ++ stored_bytes
      g.T.Pixel.form l.unused (pixels_pending l.self);
}

abbrev pub decreases-loop-block : goal.decreases-loop-block
decreases-loop-block g l = steps_pending l.self
