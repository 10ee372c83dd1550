-- The digits of a number are valid UTF-8.
use Rattle.std.proofs.Common.{subst, sym}
use Rattle.std.specs.Str.{IsUtf8}
use Rattle.std.proofs.lemmas.Fmt.{IsAscii-decimal}
use Rattle.std.proofs.lemmas.Str.{IsUtf8-from_ascii}
use Rattle.v_frame_y4m.proofs.numbers.number.Goals as goal

pub returns-in-Err : goal.returns-in-Err
returns-in-Err c = λ n small is. absurd (c.in-Err.ensures.cases.0
    (subst IsUtf8 (sym is) (IsUtf8-from_ascii _ (IsAscii-decimal n small))))
