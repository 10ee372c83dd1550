-- The line is one in front of a frame, or the reader was at its end.
use Rattle.std.proofs.Common.{arith}
use Rattle.std.proofs.lemmas.Grind.{common_steps}
use Rattle.v_frame_y4m.proofs.streams.read_frame_line.Goals as goal

pub returns-in-Some-clause-read : goal.returns-in-Some-clause-read
returns-in-Some-clause-read g c = grind (arith, common_steps)

pub returns-in-Some-2-clause-error : goal.returns-in-Some-2-clause-error
returns-in-Some-2-clause-error g c = grind (arith, common_steps)

pub returns-in-None-clause-read : goal.returns-in-None-clause-read
returns-in-None-clause-read g c = grind (arith, common_steps)

pub returns-in_err-length-clause-error : goal.returns-in_err-length-clause-error
returns-in_err-length-clause-error g c = grind (arith, common_steps)
