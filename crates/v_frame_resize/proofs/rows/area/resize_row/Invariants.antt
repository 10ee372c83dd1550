-- The pixels processed so far are the expected means.
use Rattle.std.proofs.Common.{ℕ, ◌≡◌, ◌<◌, length, slice_get, Some}
use Rattle.v_frame.specs.Prelude.{width_of}
use Rattle.v_frame_resize.specs.Spans.{IsFirst}
use Rattle.v_frame_resize.specs.Resize.{area_mean}
use Rattle.v_frame_resize.proofs.rows.area.resize_row.Given as goal

abbrev pub invariant-loop-x : goal.invariant-loop-x
invariant-loop-x g l = record {
  first : IsFirst (width_of l.source) (length l.fn.row) l.x l.first;
  pixels : (k : ℕ) → k < l.x → slice_get l.row k
      ≡ Some (g.T.Pixel.form.pixel_of (area_mean g.T.Pixel.form l.source (length l.fn.row) l.height k l.y));
}
