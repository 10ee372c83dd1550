-- A number that fits into `usize` is not saturated.
use Rattle.std.proofs.Common.{arith}
use Rattle.std.proofs.lemmas.Grind.{common_steps}
use Rattle.v_frame_y4m.proofs.streams.nothing_found.Goals as goal

pub returns : goal.returns
returns g c = grind (arith, common_steps)
