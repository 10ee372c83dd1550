-- Blends of two values with a weight of `weight / 256`.
use Rattle.std.proofs.Common.{ℕ, ◌≡◌, ◌+◌, ◌-◌, ◌*◌, ◌/◌, ◌%◌, ◌<◌, ◌≤◌, ap, ◌∙◌, arith}
use Rattle.std.proofs.Math.Nat.{mul-le-mul_right}

-- The blend of two values is the sum of the blends of their bytes.
pub blend_by_bytes : (p q a b : ℕ)
    → p / 256 * a + q / 256 * b + (p % 256 * a + q % 256 * b + 128) / 256 ≡ (p * a + q * b + 128) / 256
blend_by_bytes p q a b =
    let split : p ≡ 256 * (p / 256) + p % 256 = omega arith in
    let split1 : q ≡ 256 * (q / 256) + q % 256 = omega arith in
    let first : p * a ≡ 256 * (p / 256 * a) + p % 256 * a = ap (λ n. n * a) split ∙ omega arith in
    let second : q * b ≡ 256 * (q / 256 * b) + q % 256 * b = ap (λ n. n * b) split1 ∙ omega arith in
    omega (arith, first, second)

-- If both values are below a bound, so is their blend.
pub blend_within : (m p q w : ℕ) → p < m → q < m → w ≤ 256 → (p * (256 - w) + q * w + 128) / 256 < m
blend_within m p q w first second part =
    let low : p * (256 - w) ≤ (m - 1) * (256 - w) = mul-le-mul_right (256 - w) (omega (arith, first)) in
    let high : q * w ≤ (m - 1) * w = mul-le-mul_right w (omega (arith, second)) in
    let whole : (m - 1) * (256 - w) + (m - 1) * w ≡ (m - 1) * 256 =
    let parts : 256 - w + w ≡ 256 = omega (arith, part) in
    omega arith ∙ ap (λ n. (m - 1) * n) parts in
    omega (arith, first, low, high, whole)
