-- The base of the digits is the divisor plus 1.
use Rattle.std.proofs.Common.{◌≡◌, ◌+◌, ◌*◌, ◌/◌, ◌^◌, ◌<◌, ◌≤◌, arith, subst, sym}
use Rattle.std.proofs.Math.Nat.{pow-le-pow_right}
use Rattle.v_frame_convert.specs.Depth.{largest_value}
use Rattle.v_frame_convert.proofs.Ranges.{by_one_below}
use Rattle.v_frame_convert.proofs.range_values.by_largest.Goals as goal

pub returns : goal.returns
returns c =
    let two : 0 < 2 = omega arith in
    let m = largest_value c.args.depth in
    let n = c.args.number in
    let more : 2 ^ 8 ≤ 2 ^ c.args.depth = pow-le-pow_right two c.requires.depth.0 in
    let whole : 2 ^ c.args.depth ≡ m + 1 = omega (arith, more) in
    let some : 0 < m = omega (arith, more) in
    let digits : n < (m + 1) * m = subst (λ b. n < b * m) whole c.requires.digits in
    subst (λ b. (n + n / b + 1) / b ≡ n / m) (sym whole) (by_one_below m n some digits)
