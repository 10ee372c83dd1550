-- A header that was read from a line can be written.
use Rattle.std.proofs.Common.{take, rules}
use Rattle.v_frame_y4m.specs.Lax.{strict_line}
use Rattle.v_frame_y4m.proofs.CleanPieces.{read_is_writable}
use Rattle.v_frame_y4m.proofs.LaxLines.{strict_line_is_line}
use Rattle.v_frame_y4m.proofs.lax.read_lax_header.Goals as goal

pub returns-clause-writable : goal.returns-clause-writable
returns-clause-writable g c =
    let line = take c.in-Some.length c.read_line.new.line in
    read_is_writable (strict_line line) c.in_ok-parse_lax_header.field-0.0
    c.in_ok-parse_lax_header.ensures.found (strict_line_is_line line (search rules))
