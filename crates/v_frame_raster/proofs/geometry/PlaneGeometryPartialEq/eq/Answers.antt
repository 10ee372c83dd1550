-- Two layouts are equal if and only if all their fields are equal.
use Rattle.std.proofs.Common.{arith}
use Rattle.std.proofs.lemmas.Grind.{common_steps}
use Rattle.v_frame_raster.proofs.geometry.PlaneGeometryPartialEq.eq.Goals as goal

pub returns : goal.returns
returns c = grind (arith, common_steps)
