-- The rows processed so far have the means, and everything else is unchanged.
use Rattle.std.proofs.Common.{Some}
use Rattle.v_frame_resize.specs.Resize.{area_mean}
use Rattle.v_frame_resize.proofs.PixelsWritten.{PixelsBelow}
use Rattle.v_frame_resize.proofs.rows.area.resize_area.Given as goal

abbrev pub invariant-loop-y : goal.invariant-loop-y
invariant-loop-y g l =
    PixelsBelow (λ x y. Some (g.T.Pixel.form.pixel_of (area_mean g.T.Pixel.form l.source l.width l.height x y)))
    l.width l.height l.stride l.initial.buffer l.buffer l.y
