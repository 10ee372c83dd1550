-- The kept pieces are those of the strict line.
use Rattle.v_frame_y4m.proofs.LaxLines.{strict_line_stays}
use Rattle.v_frame_y4m.proofs.laws.strict_lines_stay.Goals as goal

pub returns : goal.returns
returns c = strict_line_stays
