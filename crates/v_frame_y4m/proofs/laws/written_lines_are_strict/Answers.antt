-- The line that is written is a header line.
use Rattle.std.proofs.lemmas.List.Elements.{All-weaker}
use Rattle.v_frame_y4m.specs.Header.{header_line, IsPiece}
use Rattle.v_frame_y4m.proofs.HeaderLines.{written_is_header, piece_has_no_space, NoSpace}
use Rattle.v_frame_y4m.proofs.LaxLines.{header_is_strict}
use Rattle.v_frame_y4m.proofs.laws.written_lines_are_strict.Goals as goal

pub returns : goal.returns
returns c = λ h size each. header_is_strict (header_line h) h
    (written_is_header h size (All-weaker IsPiece NoSpace piece_has_no_space h.extensions each))
