-- Values converted between the limited range and the full range. Quotients are computed in two steps, or by a divisor
-- that is a power of two minus 1.
use Rattle.std.proofs.Common.{ℕ, ◌≡◌, ◌+◌, ◌-◌, ◌*◌, ◌/◌, ◌%◌, ◌^◌, ◌<◌, ◌≤◌, inl, inr, sym, ◌∙◌, ap, arith}
use Rattle.std.proofs.Math.Nat.{div-div-eq-div-mul, mul_comm, div-eq_of_lt, div-lt_iff_lt-mul, mod-lt}
use Rattle.std.proofs.lemmas.Bool.{cases_lt}
use Rattle.std.proofs.lemmas.Nat.{div-mul-add, div-add-mod'}
use Rattle.v_frame_convert.specs.Depth.{largest_value}
use Rattle.v_frame_convert.specs.Range.{unit_of}
use Rattle.v_frame_convert.proofs.Depths.{each_depth}

-- A division by a product equals two divisions.
pub in_two_steps : (n unit factor : ℕ) → n / unit / factor ≡ n / (factor * unit)
in_two_steps n unit factor = div-div-eq-div-mul n unit factor ∙ ap (λ k. n / k) (mul_comm unit factor)

-- The quotient by `m`, computed with divisions by `m + 1`.
pub by_one_below : (m n : ℕ) → 0 < m → n < (m + 1) * m → (n + n / (m + 1) + 1) / (m + 1) ≡ n / m
by_one_below m n some digits =
    let q = n / m in
    let r = n % m in
    let parts : q * m + r ≡ n = div-add-mod' n m in
    let rest : r < m = mod-lt n some in
    let low : q < m + 1 = (div-lt_iff_lt-mul some).1 digits in
    elim (cases_lt r q) [
      | inl carried ↦
          let p = q - 1 in
          let next : q ≡ p + 1 = omega arith in
          let product : q * m ≡ (p + 1) * m = ap (λ k. k * m) next in
          let as_digits : n ≡ p * (m + 1) + (m + r - p) = omega (arith, parts, product, next) in
          let upper : n / (m + 1) ≡ p =
          ap (λ k. k / (m + 1)) as_digits ∙ div-mul-add p (m + 1) (m + r - p) (omega arith) in
          let sum : n + p + 1 ≡ q * (m + 1) + r = omega (arith, parts, next) in
          rw (upper, sum) (div-mul-add q (m + 1) r (omega arith))
      | inr in_place ↦
          let as_digits : n ≡ q * (m + 1) + (r - q) = omega (arith, parts) in
          let upper : n / (m + 1) ≡ q =
          ap (λ k. k / (m + 1)) as_digits ∙ div-mul-add q (m + 1) (r - q) (omega arith) in
          let sum : n + q + 1 ≡ q * (m + 1) + (r + 1) = omega (arith, parts) in
          rw (upper, sum) (div-mul-add q (m + 1) (r + 1) (omega arith))
    ]

-- The quotient of a value below the range is 0, whether the half is added before or after the subtraction.
module _ (x unit largest : ℕ) (some : 0 < unit) (room : 224 * unit ≤ largest) where
  abbrev below : ℕ
  below = 128 * unit * (largest - 224 * unit)

  distance : 128 * unit * largest ≡ 128 * unit * (224 * unit) + below
  distance =
      let e : largest ≡ 224 * unit + (largest - 224 * unit) = omega arith in
      ap (λ k. 128 * unit * k) e ∙ omega arith

  pub chroma_quotients : (x + 112 * unit - below) / unit / 224
      ≡ (x + 128 * unit * (224 * unit) - 128 * unit * largest + 224 * unit / 2) / (224 * unit)
  chroma_quotients =
      let half : 224 * unit / 2 ≡ 112 * unit = omega arith in
      in_two_steps (x + 112 * unit - below) unit 224 ∙ rw half (elim (cases_lt x below) [
        | inl low ↦
            let none : x + 128 * unit * (224 * unit) - 128 * unit * largest + 112 * unit ≡ 112 * unit =
            omega (arith, distance) in
            div-eq_of_lt (omega arith) ∙ rw none (sym (div-eq_of_lt (omega arith)))
        | inr not_low ↦ ap (λ n. n / (224 * unit)) (omega (arith, distance))
      ])

  -- The offset of chroma in the conversion to the full range.
  pub chroma_offset : x + 128 * unit * largest - 128 * unit * (224 * unit) ≡ x + below
  chroma_offset = omega (arith, distance)

-- Values of the limited range are below the largest value.
pub luma_digits : (depth : ℕ) → 8 ≤ depth → depth ≤ 16 → (value : ℕ) → value ≤ largest_value depth
    → value * (219 * unit_of depth) + largest_value depth / 2 < 2 ^ depth * largest_value depth
luma_digits =
    each_depth (λ depth. (value : ℕ) → value ≤ largest_value depth
    → value * (219 * unit_of depth) + largest_value depth / 2 < 2 ^ depth * largest_value depth)
    (λ v h. omega arith) (λ v h. omega arith) (λ v h. omega arith) (λ v h. omega arith) (λ v h. omega arith)
    (λ v h. omega arith) (λ v h. omega arith) (λ v h. omega arith) (λ v h. omega arith)

pub chroma_digits : (depth : ℕ) → 8 ≤ depth → depth ≤ 16 → (value : ℕ) → value ≤ largest_value depth
    → value * (224 * unit_of depth) + (128 * unit_of depth * (largest_value depth - 224 * unit_of depth)
    + largest_value depth / 2) < 2 ^ depth * largest_value depth
chroma_digits =
    each_depth (λ depth. (value : ℕ) → value ≤ largest_value depth
    → value * (224 * unit_of depth) + (128 * unit_of depth * (largest_value depth - 224 * unit_of depth)
    + largest_value depth / 2) < 2 ^ depth * largest_value depth)
    (λ v h. omega arith) (λ v h. omega arith) (λ v h. omega arith) (λ v h. omega arith) (λ v h. omega arith)
    (λ v h. omega arith) (λ v h. omega arith) (λ v h. omega arith) (λ v h. omega arith)
