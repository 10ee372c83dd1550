-- The row that is returned was the first of all remaining rows.
use Rattle.std.proofs.Common.{arith}
use Rattle.std.proofs.lemmas.Grind.{common_steps}
use Rattle.v_frame_planar.proofs.pending.Pending.next_row.Goals as goal

pub returns-in-Some-clause-pixels : goal.returns-in-Some-clause-pixels
returns-in-Some-clause-pixels g c = grind (arith, common_steps)

pub returns-in-Some-next_of-clause-pixels : goal.returns-in-Some-next_of-clause-pixels
returns-in-Some-next_of-clause-pixels g c = grind (arith, common_steps)
