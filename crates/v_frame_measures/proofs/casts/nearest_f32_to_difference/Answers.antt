-- A negative difference is the negated difference of the swapped numbers.
use Rattle.std.proofs.Common.{ap, ◌∙◌}
use Rattle.std.specs.Float.Ieee.{binary32, neg}
use Rattle.v_frame_measures.proofs.Halves.{negated_difference}
use Rattle.v_frame_measures.proofs.casts.nearest_f32_to_difference.Goals as goal

pub returns-else-number-less : goal.returns-else-number-less
returns-else-number-less c =
    ap neg c.nearest_f32-else-number-less.ensures
    ∙ negated_difference binary32 c.args.number c.args.less c.if-number-less.false
