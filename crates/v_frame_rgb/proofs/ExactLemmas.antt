-- Exact sums as integers with a common denominator.
use Rattle.std.proofs.Common.{ℕ, ◌≡◌, ◌+◌, ◌-◌, ◌*◌, ◌/◌, ◌^◌, ◌<◌, ◌≤◌, min, inl, inr, refl, sym, ◌∙◌, ap, arith}
use Rattle.std.proofs.Math.Nat.{div-eq_of_lt-le, div-mul-le_self, lt-div-mul-add, mul-le-mul_left, mul-pos}
use Rattle.std.proofs.lemmas.Bool.{cases_lt}
use Rattle.std.proofs.lemmas.Nat.{mul-lt}
use Rattle.v_frame_rgb.specs.Colors.{sample_of}
use Rattle.v_frame_rgb.specs.Exact.{exact_blue, exact_green, exact_red, gray_at, levels_at, plus, sample_nearest, steps_at, times}
use Rattle.v_frame_rgb.specs.Standards.{Fraction}
use Rattle.v_frame_rgb.specs.WholeSteps.{AreSteps, IsPart}
use Rattle.v_frame_rgb.specs.declared.standard.Standard.{Standard}
use Rattle.v_frame_rgb.specs.declared.standard.ColorRange.{ColorRange}
use Rattle.v_frame_rgb.specs.declared.whole_steps.WholeSteps.{WholeSteps}

pub weighed_below : (a b : ℕ) → a < 2 ^ 43 → b < 2 ^ 16 → a * b < 2 ^ 59
weighed_below a b low few = mul-lt a b (2 ^ 43) (2 ^ 16) low few

-- ---- a rounded quotient is unchanged if the dividend and the divisor are multiplied by the same number

module _ (k s b d q h : ℕ) (half : h ≡ s / 2) where
  quotient_low : q * s + d ≤ b + h → q * (k * s) ≤ k * b + (k * s) / 2 - k * d
  quotient_low low =
      let more : k * (q * s + d) ≤ k * (b + h) = mul-le-mul_left k low in
      let twice : 2 * h ≤ s = omega arith in
      let halves : k * (2 * h) ≤ k * s = mul-le-mul_left k twice in
      omega (arith, more, halves)

  quotient_high : 0 < k → 0 < s → b + h < q * s + s + d → k * b + (k * s) / 2 - k * d < (q + 1) * (k * s)
  quotient_high some positive high =
      let next : b + h + 1 ≤ q * s + s + d = omega arith in
      let more : k * (b + h + 1) ≤ k * (q * s + s + d) = mul-le-mul_left k next in
      let nearly : s ≤ 2 * h + 1 = omega arith in
      let halves : k * s ≤ k * (2 * h + 1) = mul-le-mul_left k nearly in
      omega (arith, more, halves, mul-pos some positive)

  quotient_none : q * s ≤ 0 → q * (k * s) ≤ k * b + (k * s) / 2 - k * d
  quotient_none none =
      let more : k * (q * s) ≤ k * 0 = mul-le-mul_left k none in omega (arith, more)

quotient_scaled : (k s b d q : ℕ) → 0 < k → 0 < s → q * s ≤ b + s / 2 - d → b + s / 2 - d < q * s + s
    → (k * b + (k * s) / 2 - k * d) / (k * s) ≡ q
quotient_scaled k s b d q some positive low high =
    let above = quotient_high k s b d q (s / 2) refl some positive (omega arith) in
    elim (cases_lt d (b + s / 2)) [
      | inl inside ↦ div-eq_of_lt-le (k * s) (quotient_low k s b d q (s / 2) refl (omega arith)) above
      | inr outside ↦ div-eq_of_lt-le (k * s) (quotient_none k s b d q (s / 2) refl (omega arith)) above
    ]

sample_scaled : (k s b d : ℕ) → 0 < k → 0 < s → sample_of (k * s) (k * b) (k * d) ≡ sample_of s b d
sample_scaled k s b d some positive =
    let n = b + s / 2 - d in
    ap (λ q. min q 255)
    (quotient_scaled k s b d (n / s) some positive (div-mul-le_self n s) (lt-div-mul-add positive))

same_sample : (s s' b b' d d' : ℕ) → s ≡ s' → b ≡ b' → d ≡ d' → sample_of s b d ≡ sample_of s' b' d'
same_sample s s' b b' d d' scale bright dark = cc

-- ---- fractions as parts of a scale

module _ (scale : ℕ) where
  times_part : (count n : ℕ) (f : Fraction) → IsPart scale count f → IsPart scale (count * n) (times f n)
  times_part count n f part =
      let more : scale * f.over * n ≡ count * f.under * n = ap (λ k. k * n) part.same in
      record { some = part.some; same = omega (arith, more) }

  plus_part : (a b : ℕ) (f g : Fraction) → IsPart scale a f → IsPart scale b g → IsPart scale (a + b) (plus f g)
  plus_part a b f g first second =
      let one : scale * f.over * g.under ≡ a * f.under * g.under = ap (λ k. k * g.under) first.same in
      let other : scale * g.over * f.under ≡ b * g.under * f.under = ap (λ k. k * f.under) second.same in
      record { some = mul-pos first.some second.some; same = omega (arith, one, other) }

  nearest_part : 0 < scale → (bright dark : ℕ) (f g : Fraction) → IsPart scale bright f → IsPart scale dark g
      → sample_of scale bright dark ≡ sample_nearest f g
  nearest_part some bright dark f g first second =
      let under = f.under * g.under in
      let over = f.over * g.under in
      let less = g.over * f.under in
      let positive : 0 < under = mul-pos first.some second.some in
      let one : scale * f.over * g.under ≡ bright * f.under * g.under = ap (λ k. k * g.under) first.same in
      let other : scale * g.over * f.under ≡ dark * g.under * f.under = ap (λ k. k * f.under) second.same in
      sym (sample_scaled under scale bright dark positive some)
      ∙ (same_sample (under * scale) (scale * under) (under * bright) (scale * over) (under * dark) (scale * less)
      (omega arith) (omega (arith, one)) (omega (arith, other))
      ∙ sample_scaled scale under over less some positive)

  channel_part : (luma : ℕ) (f : Fraction) → 0 < scale → IsPart scale luma f
      → (y black more less : ℕ) (m l : Fraction) → IsPart scale more m → IsPart scale less l
      → sample_of scale (luma * y + more) (luma * black + less)
      ≡ sample_nearest (plus (times f y) m) (plus (times f black) l)
  channel_part luma f some is y black more less m l adds takes =
      nearest_part some (luma * y + more) (luma * black + less) (plus (times f y) m) (plus (times f black) l)
      (plus_part (luma * y) more (times f y) m (times_part luma y f is) adds)
      (plus_part (luma * black) less (times f black) l (times_part luma black f is) takes)

-- ---- the channels of a color

module _ (standard : Standard) (range : ColorRange) (depth scale : ℕ) (steps : WholeSteps)
    (exact : AreSteps (steps_at standard range depth) scale steps) (y u v : ℕ) where
  pub red_is_exact : sample_of scale (steps.luma * y + steps.red_v * v)
      (steps.luma * (levels_at range depth).black + steps.red_v * gray_at depth)
      ≡ exact_red standard range depth y u v
  red_is_exact =
      let f = (steps_at standard range depth).red_v in
      channel_part scale steps.luma (steps_at standard range depth).luma exact.some exact.luma y
      (levels_at range depth).black (steps.red_v * v) (steps.red_v * gray_at depth) (times f v)
      (times f (gray_at depth)) (times_part scale steps.red_v v f exact.red_v)
      (times_part scale steps.red_v (gray_at depth) f exact.red_v)

  pub green_is_exact : sample_of scale
      (steps.luma * y + (steps.green_u * gray_at depth + steps.green_v * gray_at depth))
      (steps.luma * (levels_at range depth).black + (steps.green_u * u + steps.green_v * v))
      ≡ exact_green standard range depth y u v
  green_is_exact =
      let f = (steps_at standard range depth).green_u in
      let g = (steps_at standard range depth).green_v in
      let part : (i j : ℕ) → IsPart scale (steps.green_u * i + steps.green_v * j) (plus (times f i) (times g j)) =
      λ i j. plus_part scale (steps.green_u * i) (steps.green_v * j) (times f i) (times g j)
      (times_part scale steps.green_u i f exact.green_u) (times_part scale steps.green_v j g exact.green_v) in
      channel_part scale steps.luma (steps_at standard range depth).luma exact.some exact.luma y
      (levels_at range depth).black (steps.green_u * gray_at depth + steps.green_v * gray_at depth)
      (steps.green_u * u + steps.green_v * v) (plus (times f (gray_at depth)) (times g (gray_at depth)))
      (plus (times f u) (times g v)) (part (gray_at depth) (gray_at depth)) (part u v)

  pub blue_is_exact : sample_of scale (steps.luma * y + steps.blue_u * u)
      (steps.luma * (levels_at range depth).black + steps.blue_u * gray_at depth)
      ≡ exact_blue standard range depth y u v
  blue_is_exact =
      let f = (steps_at standard range depth).blue_u in
      channel_part scale steps.luma (steps_at standard range depth).luma exact.some exact.luma y
      (levels_at range depth).black (steps.blue_u * u) (steps.blue_u * gray_at depth) (times f u)
      (times f (gray_at depth)) (times_part scale steps.blue_u u f exact.blue_u)
      (times_part scale steps.blue_u (gray_at depth) f exact.blue_u)
