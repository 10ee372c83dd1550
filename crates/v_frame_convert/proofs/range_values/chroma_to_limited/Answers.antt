-- The sum has two digits in base `2^depth`.
use Rattle.std.proofs.Common.{◌*◌, ◌/◌, ◌<◌, ◌≤◌, arith, ap, ◌∙◌, min}
use Rattle.std.proofs.Math.Nat.{div-lt_iff_lt-mul}
use Rattle.v_frame_convert.specs.Depth.{largest_value}
use Rattle.v_frame_convert.specs.Range.{unit_of}
use Rattle.v_frame_convert.proofs.Ranges.{chroma_digits, chroma_offset}
use Rattle.v_frame_convert.proofs.range_values.chroma_to_limited.Goals as goal

pub by_largest-requires-clause-digits : goal.by_largest-requires-clause-digits
by_largest-requires-clause-digits c =
    let low : c.min.result ≤ largest_value c.args.depth =
    omega (arith, c.min.ensures, c.largest-largest.ensures.value) in
    rw (c.unit-unit.ensures.value, c.largest-largest.ensures.value)
    (chroma_digits c.args.depth c.requires.0 c.requires.1 c.min.result low)

pub returns-clause-value : goal.returns-clause-value
returns-clause-value c =
    let unit = unit_of c.args.depth in
    let largest = largest_value c.args.depth in
    let some : 0 < unit = rw (c.unit-unit.ensures.value) at c.unit-unit.ensures.bounds.0 in
    let units = rw (c.largest-largest.ensures.value) at c.largest-largest.ensures.units in
    let room : 224 * unit ≤ largest = omega (arith, some, units) in
    let sum = chroma_offset (min c.args.value largest * (224 * unit)) unit largest some room in
    c.by_largest.ensures ∙ rw (
      c.min.ensures,
      c.from.ensures,
      c.unit-unit.ensures.value,
      c.largest-largest.ensures.value,
    ) (ap (λ n. n / largest) (omega (arith, sum)))

pub returns-clause-fits : goal.returns-clause-fits
returns-clause-fits c =
    let some : 0 < largest_value c.args.depth =
    omega (
      arith,
      c.largest-largest.ensures.value,
      c.largest-largest.ensures.units,
      c.unit-unit.ensures.bounds.0,
      c.unit-unit.ensures.value,
    ) in
    let low : c.min.result ≤ largest_value c.args.depth =
    omega (arith, c.min.ensures, c.largest-largest.ensures.value) in
    rw (c.by_largest.ensures, c.unit-unit.ensures.value, c.largest-largest.ensures.value)
    ((div-lt_iff_lt-mul some).1 (chroma_digits c.args.depth c.requires.0 c.requires.1 c.min.result low))
