-- Centers that are counted in parts of a pixel.
use Rattle.std.proofs.Common.{ℕ, ◌≡◌, ◌+◌, ◌*◌, ◌/◌, ◌%◌, ◌^◌, ◌<◌, ◌≤◌, inl, inr, ap, arith}
use Rattle.std.proofs.Math.Nat.{div-eq_of_lt-le, div-lt_iff_lt-mul, le_of_mul-le-mul_right, mul-le-mul_left, mul-le-mul_right}
use Rattle.std.proofs.Math.Nat.{mod-lt}
use Rattle.std.proofs.lemmas.Bool.{cases_lt}
use Rattle.std.proofs.lemmas.Nat.{div-add-mod'}
use Rattle.v_frame_resize.specs.Resize.{nearest}

-- A step is `source / d` pixels, of which `m` are whole parts. If a pixel has at least `d` squared parts, then `n`
-- steps that are rounded up end in the same pixel as `n` exact steps.
steps_end : (source d parts n m w q r : ℕ) → 0 < d → n < d → d * d ≤ parts → m * d + w ≡ source * parts → w < d
    → q * d + r ≡ n * source → r < d → n * (m + 1) / parts ≡ q
steps_end source d parts n m w q r some low room whole w_low places r_low =
    let steps : n * (m * d + w) ≡ n * (source * parts) = ap (λ k. n * k) whole in
    let placed : (q * d + r) * parts ≡ n * source * parts = ap (λ k. k * parts) places in
    let sum : n * (m + 1) * d + n * w ≡ q * parts * d + r * parts + n * d = omega (arith, steps, placed) in
    let less : n * w ≤ n * d = mul-le-mul_left n (omega arith) in
    let squares : (n + 1) * d ≤ d * d = mul-le-mul_right d (omega arith) in
    let rest : (r + 1) * parts ≤ d * parts = mul-le-mul_right parts (omega arith) in
    let first : q * parts * d ≤ n * (m + 1) * d = omega (arith, sum, less) in
    let lower : q * parts ≤ n * (m + 1) = le_of_mul-le-mul_right {k = d} first some in
    let upper : n * (m + 1) < (q + 1) * parts =
    elim (cases_lt (n * (m + 1)) ((q + 1) * parts)) [
      | inl h ↦ h
      | inr high ↦
          let more : (q + 1) * parts * d ≤ n * (m + 1) * d = mul-le-mul_right d high in
          absurd (omega (arith, sum, squares, rest, more))
    ] in
    div-eq_of_lt-le parts lower upper

module _ (source d parts n : ℕ) (some : 0 < d) where
  pub parts_are_exact : n < d → d * d ≤ parts → n * (source * parts / d + 1) / parts ≡ n * source / d
  parts_are_exact low room =
      steps_end source d parts n (source * parts / d) (source * parts % d) (n * source / d) (n * source % d) some low room
      (div-add-mod' (source * parts) d) (mod-lt (source * parts) some) (div-add-mod' (n * source) d)
      (mod-lt (n * source) some)

  -- Two more steps do not overflow.
  pub places_fit : n < d → d ≤ 131072 → source * parts ≤ 2 ^ 56
      → n * (source * parts / d + 1) + 2 * (source * parts / d + 1) < 2 ^ 64
  places_fit low small few =
      let m = source * parts / d in
      let whole : m * d + source * parts % d ≡ source * parts = div-add-mod' (source * parts) d in
      let all : (n + 2) * (m + 1) ≤ (d + 1) * (m + 1) = mul-le-mul_right (m + 1) (omega arith) in
      let one : m * 1 ≤ m * d = mul-le-mul_left m (omega arith) in
      omega (arith, all, one, whole)

-- The pixel that contains a center is inside the row.
pub nearest_inside : (source target x : ℕ) → 0 < source → x < target → nearest source target x < source
nearest_inside source target x some inside =
    let d : 0 < 2 * target = omega arith in
    let low : (2 * x + 1 + 1) * source ≤ 2 * target * source = mul-le-mul_right source (omega arith) in
    (div-lt_iff_lt-mul d).1 (omega (arith, low))

-- The position of the center after `x` steps, for rows of at most 65,536 pixels.
pub record IsPlace (source target half x place : ℕ) : Type 0 where
  pub wide : target ≤ 65536
  pub few : source ≤ 65536
  pub step : half ≡ source * 1099511627776 / (2 * target) + 1
  pub so_far : place ≡ (2 * x + 1) * half

module _ {source target half x place : ℕ} (is : IsPlace source target half x place) where
  pub next_place : IsPlace source target half (x + 1) (place + 2 * half)
  next_place = record { wide = is.wide; few = is.few; step = is.step; so_far = omega (arith, is.so_far) }

  module _ (inside : x < target) where
    -- The pixel that contains the center at this position.
    pub center_is : place / 1099511627776 ≡ nearest source target x
    center_is =
        let low : 2 * target ≤ 131072 = omega (arith, is.wide) in
        let square : 2 * target * (2 * target) ≤ 131072 * (2 * target) = mul-le-mul_right (2 * target) low in
        rw (is.so_far, is.step) (parts_are_exact source (2 * target) 1099511627776 (2 * x + 1) (omega arith) (omega arith)
        (omega (arith, square)))

    pub place_inside : 0 < source → place / 1099511627776 < source
    place_inside some = rw center_is (nearest_inside source target x some inside)

    pub next_fits : place + 2 * half < 2 ^ 64
    next_fits =
        rw (is.so_far, is.step) (places_fit source (2 * target) 1099511627776 (2 * x + 1) (omega arith) (omega arith)
        (omega (arith, is.wide)) (omega (arith, is.few)))
