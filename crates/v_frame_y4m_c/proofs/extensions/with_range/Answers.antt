-- The text with its range is refused.
use Rattle.std.proofs.Common.{arith}
use Rattle.std.proofs.lemmas.Grind.{common_steps}
use Rattle.v_frame_y4m_c.proofs.ExtensionFaults.{refused_with_range}
use Rattle.v_frame_y4m_c.proofs.extensions.with_range.Goals as goal

pub returns-in_err-both-clause-refused : goal.returns-in_err-both-clause-refused
returns-in_err-both-clause-refused c = grind (arith, common_steps, refused_with_range)
