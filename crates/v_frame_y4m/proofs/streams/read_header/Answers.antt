-- A header that was read from a line can be written.
use Rattle.std.proofs.Common.{arith, rules}
use Rattle.std.proofs.lemmas.Grind.{common_steps}
use Rattle.v_frame_y4m.proofs.CleanPieces.{read_is_writable}
use Rattle.v_frame_y4m.proofs.streams.read_header.Goals as goal

pub returns-clause-writable : goal.returns-clause-writable
returns-clause-writable g c = read_is_writable _ c.in_ok-parse_header.field-0 c.in_ok-parse_header.ensures.found
    (search rules)

pub returns-clause-read : goal.returns-clause-read
returns-clause-read g c = grind (arith, common_steps)

pub returns-in_err-parse_header-clause-error : goal.returns-in_err-parse_header-clause-error
returns-in_err-parse_header-clause-error g c = grind (arith, common_steps)

pub returns-in_err-length-clause-error : goal.returns-in_err-length-clause-error
returns-in_err-length-clause-error g c = grind (arith, common_steps)

pub returns-in_default-clause-error : goal.returns-in_default-clause-error
returns-in_default-clause-error g c = grind (arith, common_steps)
