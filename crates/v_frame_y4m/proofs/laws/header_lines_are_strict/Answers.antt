-- The pieces of the line are those of a strict line.
use Rattle.v_frame_y4m.proofs.LaxLines.{header_is_strict}
use Rattle.v_frame_y4m.proofs.laws.header_lines_are_strict.Goals as goal

pub returns : goal.returns
returns c = header_is_strict
