-- A line that continues after `FRAME` and a space may end in a carriage return.
use Rattle.v_frame_y4m.proofs.LaxLines.{frame_line_is_lax}
use Rattle.v_frame_y4m.proofs.laws.frame_lines_are_read_as_lax_ones.Goals as goal

pub returns : goal.returns
returns c = frame_line_is_lax
