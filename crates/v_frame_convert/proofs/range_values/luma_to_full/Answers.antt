-- The quotient is computed in two steps.
use Rattle.std.proofs.Common.{◌+◌, ◌-◌, ◌*◌, ◌/◌, min, ap, ◌∙◌}
use Rattle.v_frame_convert.specs.Depth.{largest_value}
use Rattle.v_frame_convert.specs.Range.{unit_of}
use Rattle.v_frame_convert.proofs.Ranges.{in_two_steps}
use Rattle.v_frame_convert.proofs.range_values.luma_to_full.Goals as goal

pub returns-clause-value : goal.returns-clause-value
returns-clause-value c =
    let unit = unit_of c.args.depth in
    let largest = largest_value c.args.depth in
    c.min.ensures ∙ rw (
      c.saturating_sub-above.ensures,
      c.from.ensures,
      c.unit-unit.ensures.value,
      c.largest-largest.ensures.value,
    ) (ap (λ q. min q largest) (in_two_steps ((c.args.value - 16 * unit) * largest + 219 * unit / 2) unit 219))
