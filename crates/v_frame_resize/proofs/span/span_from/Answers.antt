-- The pixel in which a span begins is a pixel of the source.
use Rattle.std.proofs.Common.{◌+◌, ◌≤◌, arith}
use Rattle.std.proofs.Math.Nat.{mul-le-mul_right}
use Rattle.v_frame_resize.proofs.Sums.{first_inside}
use Rattle.v_frame_resize.proofs.span.span_from.Goals as goal

pub overflow_add-first : goal.overflow_add-first
overflow_add-first c =
    let inside = first_inside c.args.source c.args.target c.args.x c.args.first c.requires.some c.requires.within
    c.requires.first in
    let low : c.args.first + 1 ≤ c.args.source = omega (arith, inside) in
    omega (arith, mul-le-mul_right c.args.target low, c.requires.countable)
