-- The pixels processed so far are the nearest ones, and the next center is known.
use Rattle.std.proofs.Common.{length, slice_get}
use Rattle.v_frame_resize.specs.Resize.{nearest}
use Rattle.v_frame_resize.specs.Centers.{IsCenter}
use Rattle.v_frame_resize.proofs.RowWritten.{WrittenBefore}
use Rattle.v_frame_resize.proofs.rows.nearest.nearest_by_centers.Given as goal

abbrev pub invariant-loop-x : goal.invariant-loop-x
invariant-loop-x g l = record {
  center : IsCenter (length l.row) (length l.fn.out) l.x l.center;
  pixels : WrittenBefore (λ k. slice_get l.row (nearest (length l.row) (length l.fn.out) k)) l.out l.x;
}
