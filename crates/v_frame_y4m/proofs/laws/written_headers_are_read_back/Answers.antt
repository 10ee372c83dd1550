-- The line states the header, and a line states only one.
use Rattle.std.proofs.Common.{List, ℕ, drop, sym, ◌∙◌, ap, subst}
use Rattle.std.proofs.lemmas.List.Elements.{All-weaker}
use Rattle.v_frame_y4m.specs.Header.{header_line, IsPiece, Says}
use Rattle.v_frame_y4m.proofs.HeaderFaults.{memory_alone}
use Rattle.v_frame_y4m.proofs.HeaderLines.{written_is_header, piece_has_no_space, NoSpace}
use Rattle.v_frame_y4m.proofs.HeaderTexts.{one_header}
use Rattle.v_frame_y4m.proofs.laws.written_headers_are_read_back.Goals as goal

pub returns-clause-same : goal.returns-clause-same
returns-clause-same c = λ h k size each b.
    let a = written_is_header h size (All-weaker IsPiece NoSpace piece_has_no_space h.extensions each) in
    let same = ap (drop 1) (sym a.pieces ∙ b.pieces) in
    one_header b.parameters k h b.says (subst (λ (ps : List (List ℕ)). Says ps h) same a.says) b.size a.size

pub returns-clause-unrefused : goal.returns-clause-unrefused
returns-clause-unrefused c = λ h error size each refused.
    memory_alone (header_line h) error h (written_is_header h size
    (All-weaker IsPiece NoSpace piece_has_no_space h.extensions each)) refused
