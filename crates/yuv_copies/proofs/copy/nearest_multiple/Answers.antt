-- A multiple plus one step is the next multiple.
use Rattle.std.proofs.Common.{◌≡◌, ◌∙◌, ◌+◌, ◌-◌, ◌*◌, ◌/◌, ◌%◌, ℕ, ap, arith}
use Rattle.std.proofs.Math.Nat.{mod-add-div', mul-add-mod_self_right, mul-mod_left}
use Rattle.yuv_copies.proofs.copy.nearest_multiple.Goals as goal

pub returns-clause-multiple : goal.returns-clause-multiple
returns-clause-multiple c =
    let row = c.args.row in
    let step = c.args.step in
    let below : row - row % step ≡ row / step * step = omega (arith, mod-add-div' row step) in
    ap (λ (n : ℕ). (n + step) % step) below ∙ mul-add-mod_self_right (row / step) step step
    ∙ ap (λ (n : ℕ). n % step) {x = step} {y = 1 * step} (omega arith) ∙ mul-mod_left 1 step

-- A row minus the remainder of its division is a multiple.
pub returns-then-rest-step-clause-multiple : goal.returns-then-rest-step-clause-multiple
returns-then-rest-step-clause-multiple c =
    let row = c.args.row in
    let step = c.args.step in
    let below : row - row % step ≡ row / step * step = omega (arith, mod-add-div' row step) in
    ap (λ (n : ℕ). n % step) below ∙ mul-mod_left (row / step) step
