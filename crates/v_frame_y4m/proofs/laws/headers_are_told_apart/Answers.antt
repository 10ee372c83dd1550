-- A line has only one list of pieces.
use Rattle.std.proofs.Common.{List, ℕ, drop, sym, ◌∙◌, ap, subst}
use Rattle.v_frame_y4m.specs.Header.{Says}
use Rattle.v_frame_y4m.proofs.HeaderTexts.{one_header}
use Rattle.v_frame_y4m.proofs.laws.headers_are_told_apart.Goals as goal

pub returns : goal.returns
returns c = λ line h k a b.
    let same = ap (drop 1) (sym b.pieces ∙ a.pieces) in
    one_header a.parameters h k a.says (subst (λ (ps : List (List ℕ)). Says ps k) same b.says) a.size b.size
