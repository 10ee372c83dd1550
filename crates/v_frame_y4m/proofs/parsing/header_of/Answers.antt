-- Each part of the header comes from its own parameters.
use Rattle.std.proofs.Common.{arith}
use Rattle.std.proofs.lemmas.Grind.{common_steps}
use Rattle.v_frame_y4m.proofs.parsing.header_of.Goals as goal

pub returns-clause-says : goal.returns-clause-says
returns-clause-says c = grind (arith, common_steps)

pub returns-clause-size : goal.returns-clause-size
returns-clause-size c = grind (arith, common_steps)

pub returns-in_err-check_letters-clause-error : goal.returns-in_err-check_letters-clause-error
returns-in_err-check_letters-clause-error c = grind (arith, common_steps)

pub returns-in_err-width-clause-error : goal.returns-in_err-width-clause-error
returns-in_err-width-clause-error c = grind (arith, common_steps)

pub returns-in_err-frame_rate-clause-error : goal.returns-in_err-frame_rate-clause-error
returns-in_err-frame_rate-clause-error c = grind (arith, common_steps)

pub returns-in_err-interlacing-clause-error : goal.returns-in_err-interlacing-clause-error
returns-in_err-interlacing-clause-error c = grind (arith, common_steps)

pub returns-in_err-color-clause-error : goal.returns-in_err-color-clause-error
returns-in_err-color-clause-error c = grind (arith, common_steps)

pub returns-in_err-extensions-clause-error : goal.returns-in_err-extensions-clause-error
returns-in_err-extensions-clause-error c = grind (arith, common_steps)
