-- The written bytes, followed by the bytes of the remaining samples, are all bytes.
use Rattle.std.proofs.Common.{ℕ, ◌≡◌, List, ◌++◌, length}
use Rattle.std.specs.Io.KnownBytes.{Appends}
use Rattle.v_frame_semi_planar.specs.Pending.{pixels_pending}
use Rattle.v_frame_semi_planar.specs.SemiPlanar.{stored_bytes}
use Rattle.v_frame_semi_planar.proofs.writing.write_pending.Given as goal

abbrev pub invariant-loop-pending : goal.invariant-loop-pending
invariant-loop-pending g l = record {
  sent : (front : List ℕ) × Appends (g.W.Write.contents l.fn.writer.inner) (g.W.Write.contents l.writer.inner) front
      × (stored_bytes g.T.Pixel.form l.unused (pixels_pending l.fn.pending) ≡ front ++ stored_bytes g.T.Pixel.form
      l.unused (pixels_pending l.pending));
  failures : l.writer.failures ≡ l.fn.writer.failures;
  last_failure : l.writer.last_failure ≡ l.fn.writer.last_failure;
}

abbrev pub decreases-loop-pending : goal.decreases-loop-pending
decreases-loop-pending g l = length (stored_bytes g.T.Pixel.form l.unused (pixels_pending l.pending))
