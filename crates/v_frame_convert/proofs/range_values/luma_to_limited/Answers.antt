-- The sum has two digits in base `2^depth`.
use Rattle.std.proofs.Common.{◌≤◌, arith}
use Rattle.v_frame_convert.specs.Depth.{largest_value}
use Rattle.v_frame_convert.proofs.Ranges.{luma_digits}
use Rattle.v_frame_convert.proofs.range_values.luma_to_limited.Goals as goal

pub by_largest-requires-clause-digits : goal.by_largest-requires-clause-digits
by_largest-requires-clause-digits c =
    let low : c.min.result ≤ largest_value c.args.depth =
    omega (arith, c.min.ensures, c.largest-largest.ensures.value) in
    rw (c.unit-unit.ensures.value, c.largest-largest.ensures.value)
    (luma_digits c.args.depth c.requires.0 c.requires.1 c.min.result low)
