-- A ratio is valid UTF-8.
use Rattle.std.proofs.Common.{subst, sym}
use Rattle.std.specs.Str.{IsUtf8}
use Rattle.std.proofs.lemmas.Str.{IsUtf8-from_ascii}
use Rattle.v_frame_y4m.proofs.NumberTexts.{ratio_is_ascii}
use Rattle.v_frame_y4m.proofs.numbers.ratio.Goals as goal

pub returns-in-Err : goal.returns-in-Err
returns-in-Err c = λ r fits is. absurd (c.in-Err.ensures.cases.0
    (subst IsUtf8 (sym is) (IsUtf8-from_ascii _ (ratio_is_ascii r fits))))
