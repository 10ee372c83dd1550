-- In each arm of the match, the scale is the scale of the arm.
use Rattle.v_frame_convert.proofs.rows.scale_row.scale_row.Goals as goal

pub returns-in-Double : goal.returns-in-Double
returns-in-Double g c = rw c.in-Double.is c.double_row.ensures
