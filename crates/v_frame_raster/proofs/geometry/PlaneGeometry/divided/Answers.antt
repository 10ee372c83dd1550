-- All numbers are divisible, or the first that is not is reported.
use Rattle.std.proofs.Common.{arith}
use Rattle.std.proofs.lemmas.Grind.{common_steps}
use Rattle.v_frame_raster.proofs.geometry.PlaneGeometry.divided.Goals as goal

pub returns-then-self-y-ne0 : goal.returns-then-self-y-ne0
returns-then-self-y-ne0 c = grind (arith, common_steps)

pub invariant_of-result : goal.invariant_of-result
invariant_of-result c = grind (arith, common_steps)

pub returns : goal.returns
returns c = grind (arith, common_steps)
