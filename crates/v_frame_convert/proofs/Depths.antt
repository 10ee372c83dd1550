-- Bit depths: their largest values, and conversions between depths in 16 bits.
use Rattle.std.proofs.Common.{ℕ, zero, suc, ◌≡◌, ◌+◌, ◌-◌, ◌*◌, ◌/◌, ◌%◌, ◌^◌, ◌<◌, ◌≤◌, min, inl, inr, refl, sym}
use Rattle.std.proofs.Common.{◌∙◌, ap, subst, arith, nat_le, true, false}
use Rattle.std.proofs.Math.Nat.{min-eq_left, min-eq_right, mod-le, mod-eq_of_lt, one-le-pow, pow-le-pow_right, div-one}
use Rattle.std.proofs.Math.Nat.{mul-le-mul_right, mul-div_cancel, pow-suc}
use Rattle.std.proofs.lemmas.Nat.{le-div, pow-add}
use Rattle.std.proofs.lemmas.Bool.{cases_lt}
use Rattle.std.proofs.lemmas.Grind.{common_steps}
use Rattle.v_frame_convert.specs.Depth.{at_depth, largest_value}

module _ (P : ℕ → Type 0) (p8 : P 8) (p9 : P 9) (p10 : P 10) (p11 : P 11) (p12 : P 12) (p13 : P 13) (p14 : P 14)
    (p15 : P 15) (p16 : P 16) where
  from_eight : (k : ℕ) → k ≤ 8 → P (8 + k)
  from_eight zero h = p8
  from_eight (suc zero) h = p9
  from_eight (suc (suc zero)) h = p10
  from_eight (suc (suc (suc zero))) h = p11
  from_eight (suc (suc (suc (suc zero)))) h = p12
  from_eight (suc (suc (suc (suc (suc zero))))) h = p13
  from_eight (suc (suc (suc (suc (suc (suc zero)))))) h = p14
  from_eight (suc (suc (suc (suc (suc (suc (suc zero))))))) h = p15
  from_eight (suc (suc (suc (suc (suc (suc (suc (suc zero)))))))) h = p16
  from_eight k h = absurd (omega arith)

  -- A property that holds at each of the nine depths from 8 to 16.
  pub each_depth : (depth : ℕ) → 8 ≤ depth → depth ≤ 16 → P depth
  each_depth depth low high =
      let e : 8 + (depth - 8) ≡ depth = omega arith in
      subst P e (from_eight (depth - 8) (omega arith))

pub largest_by_shift : (depth : ℕ) → 8 ≤ depth → depth ≤ 16 → 65535 / 2 ^ (16 - depth) ≡ largest_value depth
largest_by_shift =
    each_depth (λ depth. 65535 / 2 ^ (16 - depth) ≡ largest_value depth) refl refl refl refl refl refl refl refl refl

pub pow_within : (depth : ℕ) → depth ≤ 16 → 2 ^ depth ≤ 65536
pow_within depth high = let two : 0 < 2 = omega arith in pow-le-pow_right two high

-- A value that fits the depth is unchanged by the rounding.
fits_above : (y P : ℕ) → y < P → P ≤ 65536 → min (min (y % 65536 + 1 / 2) 65535 / 1) (P - 1) ≡ y
fits_above y P below within =
    let whole : y % 65536 ≡ y = mod-eq_of_lt (omega arith) in
    let none : y + 1 / 2 ≡ y = omega arith in
    let first : min y 65535 ≡ y = min-eq_left (omega arith) in
    let last : min y (P - 1) ≡ y = min-eq_left (omega arith) in
    rw (whole, none, first, div-one y, last)

-- The sum saturates only if its quotient is clipped in any case.
module _ (v half D lt lf : ℕ) (some : 0 < D) (whole : lf + 1 ≡ (lt + 1) * D) (within : lf ≤ 65535) where
  below_all : lt * D ≤ lf
  below_all = let e : (lt + 1) * D ≡ lt * D + D = omega arith in omega arith

  cut_off : (a : ℕ) → lt * D ≤ a → min (a / D) lt ≡ lt
  cut_off a above = min-eq_right (le-div lt a D some above)

  rounded_below : min (min (min v lf * 1 % 65536 + half) 65535 / D) lt ≡ min ((v + half) / D) lt
  rounded_below =
      let low : min v lf ≤ lf = omega arith in
      let once : min v lf * 1 ≡ min v lf = omega arith in
      let fits : min v lf % 65536 ≡ min v lf = mod-eq_of_lt (omega arith) in
      rw (once, fits) (elim (cases_lt lf v) [
        | inl above ↦
            let is : min v lf ≡ lf = min-eq_right (omega arith) in
            rw is (cut_off (min (lf + half) 65535) (omega (arith, below_all))
            ∙ sym (cut_off (v + half) (omega (arith, below_all))))
        | inr not_above ↦
            let is : min v lf ≡ v = min-eq_left (omega arith) in
            rw is (elim (cases_lt 65535 (v + half)) [
              | inl over ↦ cut_off (min (v + half) 65535) (omega (arith, below_all))
                  ∙ sym (cut_off (v + half) (omega (arith, below_all)))
              | inr in_range ↦
                  let e : min (v + half) 65535 ≡ v + half = min-eq_left (omega arith) in
                  rw e refl
            ])
      ])

-- A value that is shifted left fits the greater depth.
raised_below : (from to value : ℕ) → from ≤ to → min value (largest_value from) * 2 ^ (to - from) < 2 ^ to
raised_below from to value greater =
    let two : 0 < 2 = omega arith in
    let sum : from + (to - from) ≡ to = omega arith in
    let parts : 2 ^ to ≡ 2 ^ from * 2 ^ (to - from) = rw (← pow-add 2 from (to - from), sum) refl in
    let all : 1 ≤ 2 ^ from = one-le-pow from 2 two in
    let low : min value (largest_value from) + 1 ≤ 2 ^ from = omega arith in
    let up : 1 ≤ 2 ^ (to - from) = one-le-pow (to - from) 2 two in
    omega (arith, mul-le-mul_right (2 ^ (to - from)) low, parts, up)

-- The shift loses no bit.
pub raised_depth : (from to value : ℕ) → from ≤ to → to ≤ 16
    → (min value (largest_value from) * 2 ^ (to - from) % 65536 ≡ at_depth from to value)
    × (at_depth from to value < 2 ^ to)
raised_depth from to value greater high =
    let test : nat_le from to ≡ true = grind (arith, common_steps) in
    let below = raised_below from to value greater in
    rw test (mod-eq_of_lt (omega (arith, below, pow_within to high)), below)

-- The two shifts of a conversion compute the value at the other depth.
pub changed_depth : (from to value : ℕ) → from ≤ 16 → to ≤ 16
    → min (min (min value (largest_value from) * 2 ^ (to - from) % 65536 + 2 ^ (from - to) / 2) 65535 / 2 ^ (from - to))
    (largest_value to) ≡ at_depth from to value
changed_depth from to value from_high to_high =
    let lf = largest_value from in
    let two : 0 < 2 = omega arith in
    let some : 1 ≤ 2 ^ (from - to) = one-le-pow (from - to) 2 two in
    elim (cases_lt to from) [
      | inl smaller ↦
          let test : nat_le from to ≡ false = grind (arith, common_steps) in
          let none : to - from ≡ 0 = omega arith in
          let sum : to + (from - to) ≡ from = omega arith in
          let parts : 2 ^ from ≡ 2 ^ to * 2 ^ (from - to) = rw (← pow-add 2 to (from - to), sum) refl in
          let least : 1 ≤ 2 ^ to = one-le-pow to 2 two in
          let all : 1 ≤ 2 ^ from = one-le-pow from 2 two in
          let one : largest_value to + 1 ≡ 2 ^ to = omega arith in
          let whole : lf + 1 ≡ (largest_value to + 1) * 2 ^ (from - to) = rw one (omega (arith, parts)) in
          let half : 2 ^ (from - to) / 2 ≡ 2 ^ (from - to - 1) =
          let e : from - to ≡ suc (from - to - 1) = omega arith in
          rw (ap (λ k. 2 ^ k) e, pow-suc 2 (from - to - 1)) (mul-div_cancel (2 ^ (from - to - 1)) two) in
          rw (test, none, half)
          (rounded_below value (2 ^ (from - to - 1)) (2 ^ (from - to)) (largest_value to) lf some whole
          (omega (arith, pow_within from from_high)))
      | inr not_smaller ↦
          let test : nat_le from to ≡ true = grind (arith, common_steps) in
          let none : from - to ≡ 0 = omega arith in
          let below = raised_below from to value (omega arith) in
          rw (test, none) (fits_above (min value lf * 2 ^ (to - from)) (2 ^ to) below (pow_within to to_high))
    ]

-- A number of bytes has eight times as many bits.
eight_bits : (bytes : ℕ) → 2 ^ (8 * bytes) ≡ 256 ^ bytes
eight_bits zero = refl
eight_bits (suc bytes) =
    let e : 8 * suc bytes ≡ 8 + 8 * bytes = omega arith in
    rw (e, pow-add 2 8 (8 * bytes), eight_bits bytes, pow-suc 256 bytes) (omega arith)

-- If a depth fits a type of pixels, its values fit the type.
pub depth_within : (bytes depth : ℕ) → depth ≤ 8 * bytes → 2 ^ depth ≤ 256 ^ bytes
depth_within bytes depth high =
    let two : 0 < 2 = omega arith in
    rw (← eight_bits bytes) (pow-le-pow_right two high)

-- The neutral value of a depth fits the type of the pixels.
pub middle_within : (bytes depth : ℕ) → 0 < depth → depth ≤ 8 * bytes → 1 * 2 ^ (depth - 1) % 65536 < 256 ^ bytes
middle_within bytes depth some high =
    let two : 0 < 2 = omega arith in
    let half = 2 ^ (depth - 1) in
    let least : 1 ≤ half = one-le-pow (depth - 1) 2 two in
    let e : depth ≡ suc (depth - 1) = omega arith in
    let double : 2 ^ depth ≡ half * 2 = ap (λ k. 2 ^ k) e ∙ pow-suc 2 (depth - 1) in
    let low : 1 * half % 65536 ≤ 1 * half = mod-le (1 * half) 65536 in
    omega (arith, low, least, double, depth_within bytes depth high)
