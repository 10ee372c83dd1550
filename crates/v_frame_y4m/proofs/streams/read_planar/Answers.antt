-- The effect of `read_frame`, or the error of a stream that ended after the line.
use Rattle.std.proofs.Common.{arith}
use Rattle.std.proofs.lemmas.Grind.{common_steps}
use Rattle.v_frame_y4m.proofs.streams.read_planar.Goals as goal

pub returns-then-branch-clause-read : goal.returns-then-branch-clause-read
returns-then-branch-clause-read g c = grind (arith, common_steps)

pub returns-then-branch-clause-borders : goal.returns-then-branch-clause-borders
returns-then-branch-clause-borders g c = grind (arith, common_steps)

pub returns-then-branch-clause-sizes : goal.returns-then-branch-clause-sizes
returns-then-branch-clause-sizes g c = grind (arith, common_steps)

pub returns-clause-borders : goal.returns-clause-borders
returns-clause-borders g c = grind (arith, common_steps)

pub returns-clause-sizes : goal.returns-clause-sizes
returns-clause-sizes g c = grind (arith, common_steps)

pub returns-clause-error : goal.returns-clause-error
returns-clause-error g c = grind (arith, common_steps)

pub returns-clause-unread : goal.returns-clause-unread
returns-clause-unread g c = grind (arith, common_steps)
