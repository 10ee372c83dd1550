-- A rectangle has some of the rows, and some of the pixels of each row.
use Rattle.v_frame_ops.proofs.Tables.{rectangle_holds}
use Rattle.v_frame_ops.proofs.laws.rectangles_hold_pixels.Goals as goal

pub returns : goal.returns
returns g c = rectangle_holds
