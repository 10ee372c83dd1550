-- The written bytes, followed by the bytes of the remaining pixels, are all planar bytes.
use Rattle.std.proofs.Common.{ℕ, ◌≡◌, List, ◌++◌, length}
use Rattle.std.specs.Io.KnownBytes.{Appends}
use Rattle.v_frame.specs.Prelude.{bytes_of_pixels, tables_of}
use Rattle.v_frame_planar.specs.Pending.{pixels_pending}
use Rattle.v_frame_planar.specs.Planar.{planar_bytes}
use Rattle.v_frame_planar.proofs.writing.write_frame.Given as goal

abbrev pub invariant-loop-pending : goal.invariant-loop-pending
invariant-loop-pending g l = record {
  sent : (front : List ℕ) × Appends (g.W.Write.contents l.fn.writer.inner) (g.W.Write.contents l.writer.inner) front
      × (planar_bytes g.T.Pixel.form (tables_of l.fn.frame) ≡ front ++ bytes_of_pixels g.T.Pixel.form
      (pixels_pending l.pending));
  failures : l.writer.failures ≡ l.fn.writer.failures;
  last_failure : l.writer.last_failure ≡ l.fn.writer.last_failure;
}

abbrev pub decreases-loop-pending : goal.decreases-loop-pending
decreases-loop-pending g l = length (bytes_of_pixels g.T.Pixel.form (pixels_pending l.pending))
