-- The quotient is computed in two steps, and the half is added before the subtraction.
use Rattle.std.proofs.Common.{◌*◌, ◌<◌, ◌≤◌, min, ap, arith, ◌∙◌}
use Rattle.v_frame_convert.specs.Depth.{largest_value}
use Rattle.v_frame_convert.specs.Range.{unit_of}
use Rattle.v_frame_convert.proofs.Ranges.{chroma_quotients}
use Rattle.v_frame_convert.proofs.range_values.chroma_to_full.Goals as goal

pub returns-clause-value : goal.returns-clause-value
returns-clause-value c =
    let unit = unit_of c.args.depth in
    let largest = largest_value c.args.depth in
    let some : 0 < unit = rw (c.unit-unit.ensures.value) at c.unit-unit.ensures.bounds.0 in
    let units = rw (c.largest-largest.ensures.value) at c.largest-largest.ensures.units in
    let room : 224 * unit ≤ largest = omega (arith, some, units) in
    c.min.ensures ∙ rw (
      c.saturating_sub.ensures,
      c.from.ensures,
      c.unit-unit.ensures.value,
      c.largest-largest.ensures.value,
    ) (ap (λ q. min q largest) (chroma_quotients (c.args.value * largest) unit largest some room))
