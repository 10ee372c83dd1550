-- A power of ten is positive, and grows with its exponent.
use Rattle.std.proofs.Common.{◌≤◌, ◌^◌, arith}
use Rattle.std.proofs.Math.Nat.{one-le-pow, pow-le-pow_right}
use Rattle.v_frame_chart.proofs.decimals.tens.Goals as goal

pub returns-clause-positive : goal.returns-clause-positive
returns-clause-positive c = let least = one-le-pow c.args.p 10 (omega arith) in omega (arith, least)

pub returns-clause-bound : goal.returns-clause-bound
returns-clause-bound c =
    let most : 10 ^ c.args.p ≤ 10 ^ 18 = pow-le-pow_right {n = 10} (omega arith) c.requires in
    omega (arith, most)
