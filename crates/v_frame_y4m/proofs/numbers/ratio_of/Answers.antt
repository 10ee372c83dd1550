-- A ratio is split at its colon.
use Rattle.std.specs.Prelude.{None}
use Rattle.v_frame_y4m.proofs.NumberTexts.{ratio_from_parts, ratio_is_cut}
use Rattle.v_frame_y4m.proofs.numbers.ratio_of.Goals as goal

pub returns-in-Some : goal.returns-in-Some
returns-in-Some c = ratio_from_parts c.args.text.now c.in-Some.numerator c.in-Some.denominator c.in-Some.ensures.cases
    _ c.ratio_between.ensures

pub returns-in-None : goal.returns-in-None
returns-in-None c = λ r fits is. ratio_is_cut r fits c.args.text.now is None c.in-None.ensures.cases
