-- Rows at half the size, in lanes that hold two adjacent pixels.
use Rattle.std.proofs.Common.{ℕ, zero, suc, ◌≡◌, ◌+◌, ◌-◌, ◌*◌, ◌/◌, ◌%◌, ◌^◌, ◌<◌, ◌≤◌, List, ◌∷◌, length, take}
use Rattle.std.proofs.Common.{get_or, bit_and, refl, ◌∙◌, arith, Fits, w16}
use Rattle.std.specs.Simd.Lanes.{zip2, number_l, digits_l}
use Rattle.std.proofs.Math.Nat.{mod-eq_of_lt, mul-le-mul_left, mul-le-mul_right}
use Rattle.std.proofs.lemmas.Nat.{and_mask, div-mul-add, mod-mul-add}
use mir.Syntax.{Width}
use mir.Val.{bits}
use Rattle.v_frame_raster.specs.Pixel.{one_byte, two_bytes}
use Rattle.v_frame_raster.specs.PixelRows.{halved, rounded_mean}

-- Pixels of a width for which two pixels together can hold the sum of four.
module _ (w : Width) (room : 4 ≤ 2 ^ bits w) where
  abbrev base : ℕ
  base = 2 ^ bits w

  -- Lanes that hold two adjacent pixels each.
  abbrev lanes : ℕ → List ℕ → List ℕ
  lanes n pixels = digits_l (base * base) n (number_l base (take (2 * n) pixels))

  -- The pixel that results from such a lane and the lane below it.
  abbrev lane_mean : ℕ → ℕ → ℕ
  lane_mean t b =
      let size = base * base in
      ((((bit_and t (base - 1) + t / base) % size + bit_and b (base - 1)) % size + b / base) % size + 2) % size / 4

  halves : (a b : ℕ) → a < base → (bit_and (a + base * b) (base - 1) ≡ a) × ((a + base * b) / base ≡ b)
  halves a b small =
      let e : a + base * b ≡ b * base + a = omega arith in
      rw e (and_mask (b * base + a) (bits w) ∙ mod-mul-add b base a small, div-mul-add b base a small)

  lane_and_rest : (a b rest : ℕ) → a < base → b < base → let all = a + base * (b + base * rest) in
      (all % (base * base) ≡ a + base * b) × (all / (base * base) ≡ rest)
  lane_and_rest a b rest small small1 =
      let e : a + base * (b + base * rest) ≡ rest * (base * base) + (a + base * b) = omega arith in
      let within : a + base * b < base * base = omega (arith, mul-le-mul_left base small1) in
      rw e (mod-mul-add rest (base * base) (a + base * b) within, div-mul-add rest (base * base) (a + base * b) within)

  lane_mean_is : (a b c d : ℕ) → a < base → b < base → c < base → d < base
      → lane_mean (a + base * b) (c + base * d) ≡ rounded_mean a b c d
  lane_mean_is a b c d small small1 small2 small3 =
      let top = halves a b small in
      let bottom = halves c d small2 in
      let whole : (x : ℕ) → x < 4 * base → x % (base * base) ≡ x =
      λ x h. mod-eq_of_lt (omega (arith, mul-le-mul_right base room)) in
      let two = whole (a + b) (omega arith) in
      let three = whole (a + b + c) (omega arith) in
      let four = whole (a + b + c + d) (omega arith) in
      rw (top.0, top.1, bottom.0, bottom.1, two, three, four, whole (a + b + c + d + 2) (omega arith))

  pub halved_lanes : (n : ℕ) (top bottom : List ℕ) → 2 * n ≤ length top → 2 * n ≤ length bottom
      → ((k : ℕ) → Fits w (get_or top k 0)) → ((k : ℕ) → Fits w (get_or bottom k 0))
      → zip2 lane_mean (lanes n top) (lanes n bottom) ≡ halved one_byte (take (2 * n) top) (take (2 * n) bottom)
  halved_lanes zero top bottom long long1 fits fits1 = refl
  halved_lanes (suc n) (a ∷ b ∷ top) (c ∷ d ∷ bottom) long long1 fits fits1 =
      let e : 2 * suc n ≡ suc (suc (2 * n)) = omega arith in
      let upper = lane_and_rest a b (number_l base (take (2 * n) top)) (fits 0).fits (fits 1).fits in
      let lower = lane_and_rest c d (number_l base (take (2 * n) bottom)) (fits1 0).fits (fits1 1).fits in
      let mean = lane_mean_is a b c d (fits 0).fits (fits 1).fits (fits1 0).fits (fits1 1).fits in
      let others = halved_lanes n top bottom (omega (arith, long)) (omega (arith, long1)) (λ k. fits (suc (suc k)))
      (λ k. fits1 (suc (suc k))) in
      rw (e, upper.0, upper.1, lower.0, lower.1, mean, others)
  halved_lanes n top bottom long long1 fits fits1 = absurd (omega (arith, long, long1))

-- Lanes of two two-byte pixels, which consist of their bytes.
abbrev word_lanes : ℕ → List ℕ → List ℕ
word_lanes n pixels =
    digits_l 4294967296 n (number_l 256 (digits_l 256 (2 * (2 * n)) (number_l 65536 (take (2 * n) pixels))))

bytes_of_words : (n : ℕ) (words : List ℕ) → n ≤ length words → ((k : ℕ) → Fits w16 (get_or words k 0))
    → number_l 256 (digits_l 256 (2 * n) (number_l 65536 (take n words))) ≡ number_l 65536 (take n words)
bytes_of_words zero words long fits = refl
bytes_of_words (suc n) (word ∷ words) long fits =
    let e : 2 * suc n ≡ suc (suc (2 * n)) = omega arith in
    let rest : ℕ = number_l 65536 (take n words) in
    let low : (word + 65536 * rest) % 256 ≡ word % 256 = omega arith in
    let high : (word + 65536 * rest) / 256 % 256 ≡ word / 256 = omega (arith, (fits 0).fits) in
    let left : (word + 65536 * rest) / 256 / 256 ≡ rest = omega (arith, (fits 0).fits) in
    let more = bytes_of_words n words (omega (arith, long)) (λ k. fits (suc k)) in
    rw (e, low, high, left, more) (omega arith)
bytes_of_words n words long fits = absurd (omega (arith, long))

pub halved_words : (n : ℕ) (top bottom : List ℕ) → 2 * n ≤ length top → 2 * n ≤ length bottom
    → ((k : ℕ) → Fits w16 (get_or top k 0)) → ((k : ℕ) → Fits w16 (get_or bottom k 0))
    → zip2 (lane_mean w16 (omega arith)) (word_lanes n top) (word_lanes n bottom)
    ≡ halved two_bytes (take (2 * n) top) (take (2 * n) bottom)
halved_words n top bottom long long1 fits fits1 =
    rw (bytes_of_words (2 * n) top long fits, bytes_of_words (2 * n) bottom long1 fits1)
    (halved_lanes w16 (omega arith) n top bottom long long1 fits fits1)
