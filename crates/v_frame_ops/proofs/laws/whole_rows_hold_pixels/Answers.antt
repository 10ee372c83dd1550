-- The visible rows of a plane are a rectangle of the rows of its whole buffer.
use Rattle.std.proofs.Common.{◌∙◌, ap}
use Rattle.v_frame.specs.Prelude.{pixel_at, whole_rows}
use Rattle.v_frame_ops.proofs.laws.whole_rows_hold_pixels.Goals as goal

pub returns : goal.returns
returns g c = λ p i j across down.
    let k = p.geometry in
    ap (λ rows. pixel_at rows i j) (c.tables_are_rectangles.ensures p)
    ∙ c.rectangles_hold_pixels.ensures (whole_rows p) k.pad_left k.pad_top k.width k.height i j across down
