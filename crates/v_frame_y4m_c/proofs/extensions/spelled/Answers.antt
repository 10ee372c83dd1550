-- One more extension was added.
use Rattle.std.proofs.Common.{arith}
use Rattle.std.proofs.lemmas.Grind.{common_steps}
use Rattle.v_frame_y4m_c.proofs.extensions.spelled.Goals as goal

pub loop-extension-init : goal.loop-extension-init
loop-extension-init c = grind (arith, common_steps)

pub loop-extension-preserved : goal.loop-extension-preserved
loop-extension-preserved c = grind (arith, common_steps)

pub returns : goal.returns
returns c = grind (arith, common_steps)
