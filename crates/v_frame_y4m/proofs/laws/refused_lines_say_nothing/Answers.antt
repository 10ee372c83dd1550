-- Each fault contradicts the statement of a header.
use Rattle.v_frame_y4m.proofs.HeaderFaults.{refusal_refutes}
use Rattle.v_frame_y4m.proofs.laws.refused_lines_say_nothing.Goals as goal

pub returns : goal.returns
returns c = λ line error h other refused is. refusal_refutes line error h other refused is
