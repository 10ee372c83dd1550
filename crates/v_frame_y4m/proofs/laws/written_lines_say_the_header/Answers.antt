-- Splitting the line at its spaces gives the parameters.
use Rattle.std.proofs.lemmas.List.Elements.{All-weaker}
use Rattle.v_frame_y4m.specs.Header.{IsPiece}
use Rattle.v_frame_y4m.proofs.HeaderLines.{written_is_header, piece_has_no_space, NoSpace}
use Rattle.v_frame_y4m.proofs.laws.written_lines_say_the_header.Goals as goal

pub returns : goal.returns
returns c = λ h size each. written_is_header h size (All-weaker IsPiece NoSpace piece_has_no_space h.extensions each)
