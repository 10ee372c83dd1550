-- The parameters were appended in their order.
use Rattle.std.proofs.Common.{arith}
use Rattle.std.proofs.lemmas.Grind.{common_steps}
use Rattle.v_frame_y4m.proofs.line.push_parameters.Goals as goal

pub returns : goal.returns
returns c = grind (arith, common_steps)
