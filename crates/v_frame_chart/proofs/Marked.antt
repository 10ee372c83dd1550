-- The marks of the axis of frames lie on it.
use Rattle.std.proofs.Common.{ℕ, ◌≡◌, ◌+◌, ◌-◌, ◌*◌, ◌/◌, ◌<◌, ◌≤◌, arith}
use Rattle.std.proofs.Math.Nat.{div-mul-le_self, mul-le-mul_right, add-mul}

pub marks_lie : (k span step start : ℕ) → start < step → k < (span + step - start) / step → start + k * step ≤ span
marks_lie k span step start near within =
    let count = (span + step - start) / step in
    let whole : count * step ≤ span + step - start = div-mul-le_self (span + step - start) step in
    let few : (k + 1) * step ≤ count * step = mul-le-mul_right step (omega arith) in
    let one_more : (k + 1) * step ≡ k * step + 1 * step = add-mul k 1 step in
    omega arith
