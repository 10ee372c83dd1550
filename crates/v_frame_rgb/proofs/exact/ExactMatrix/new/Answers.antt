-- The steps of the standard are integers, and they are small.
use Rattle.std.proofs.Common.{◌*◌, ◌<◌, ◌^◌, arith}
use Rattle.v_frame_rgb.specs.WholeSteps.{AreSmall, unit_at, whole_steps_of}
use Rattle.v_frame_rgb.proofs.WholeStepLemmas.{steps_are_small, steps_are_whole, unit_is_small}
use Rattle.v_frame_rgb.proofs.exact.ExactMatrix.new.Goals as goal

pub overflow_mul-scale : goal.overflow_mul-scale
overflow_mul-scale c =
    let range = c.args.range in let unit = unit_at range c.args.depth in
    let low : unit < 65536 = unit_is_small range c.args.depth c.requires.high in
    let small = (steps_are_small c.args.standard range unit low).denominator in
    rw (c.new-steps.ensures, c.unit-unit.ensures) (omega (arith, small))

pub invariant_of-result-clause-small : goal.invariant_of-result-clause-small
invariant_of-result-clause-small c =
    let range = c.args.range in let unit = unit_at range c.args.depth in
    rw (c.new-steps.ensures, c.unit-unit.ensures)
    (steps_are_small c.args.standard range unit (unit_is_small range c.args.depth c.requires.high))

pub invariant_of-result-clause-exact : goal.invariant_of-result-clause-exact
invariant_of-result-clause-exact c =
    rw (c.new-steps.ensures, c.unit-unit.ensures)
    (steps_are_whole c.args.standard c.args.range c.args.depth c.requires.low)
