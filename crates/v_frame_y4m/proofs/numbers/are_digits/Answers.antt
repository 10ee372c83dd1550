-- The first byte, and all bytes.
use Rattle.std.proofs.Common.{arith}
use Rattle.std.proofs.lemmas.Grind.{common_steps}
use Rattle.v_frame_y4m.proofs.numbers.are_digits.Goals as goal

pub returns-then-begins_above_zero : goal.returns-then-begins_above_zero
returns-then-begins_above_zero c = grind (arith, common_steps)

pub returns-else-begins_above_zero : goal.returns-else-begins_above_zero
returns-else-begins_above_zero c = grind (arith, common_steps)
