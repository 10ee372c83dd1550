-- The rows processed so far have the nearest pixels, and the next center is known.
use Rattle.v_frame.specs.Prelude.{pixel_at, width_of, height_of}
use Rattle.v_frame_resize.specs.Resize.{nearest}
use Rattle.v_frame_resize.specs.Centers.{IsCenter}
use Rattle.v_frame_resize.proofs.PixelsWritten.{PixelsBelow}
use Rattle.v_frame_resize.proofs.rows.nearest.resize_nearest.Given as goal

abbrev pub invariant-loop-y : goal.invariant-loop-y
invariant-loop-y g l = record {
  center : IsCenter (height_of l.source) l.height l.y l.center;
  rows : PixelsBelow
      (λ x y. pixel_at l.source (nearest (width_of l.source) l.width x) (nearest (height_of l.source) l.height y))
      l.width l.height l.stride l.initial.buffer l.buffer l.y;
}
