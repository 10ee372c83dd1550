-- One more extension was appended.
use Rattle.std.proofs.Common.{arith}
use Rattle.std.proofs.lemmas.Grind.{common_steps}
use Rattle.v_frame_y4m.proofs.line.push_extensions.Goals as goal

pub loop-extension-init : goal.loop-extension-init
loop-extension-init c = grind (arith, common_steps)

pub loop-extension-preserved : goal.loop-extension-preserved
loop-extension-preserved c = grind (arith, common_steps)

pub returns : goal.returns
returns c = grind (arith, common_steps)
