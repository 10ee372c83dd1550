-- The color in the table for the three properties has them.
use Rattle.std.proofs.Common.{arith}
use Rattle.std.proofs.lemmas.Grind.{common_steps}
use Rattle.v_frame_y4m.proofs.ColorsFound.{found_if}
use Rattle.v_frame_y4m.proofs.color.Color.new.Goals as goal

pub returns-else-bit_depth-eq8-clause-found : goal.returns-else-bit_depth-eq8-clause-found
returns-else-bit_depth-eq8-clause-found c =
    found_if c.args.subsampling c.args.bit_depth c.args.siting _ (grind (arith, common_steps))
