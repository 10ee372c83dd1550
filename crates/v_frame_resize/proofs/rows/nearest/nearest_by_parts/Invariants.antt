-- The pixels processed so far are the nearest ones, and the position of the next center is known.
use Rattle.std.proofs.Common.{◌*◌, length, slice_get}
use Rattle.v_frame_resize.specs.Resize.{nearest}
use Rattle.v_frame_resize.proofs.PartLemmas.{IsPlace}
use Rattle.v_frame_resize.proofs.RowWritten.{WrittenBefore}
use Rattle.v_frame_resize.proofs.rows.nearest.nearest_by_parts.Given as goal

abbrev pub invariant-loop-pair : goal.invariant-loop-pair
invariant-loop-pair g l = record {
  place : IsPlace (length l.row) (length l.fn.out) l.half (2 * l.pair) l.place;
  pixels : WrittenBefore (λ k. slice_get l.row (nearest (length l.row) (length l.fn.out) k)) l.out (2 * l.pair);
}
