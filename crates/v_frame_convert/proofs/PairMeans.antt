-- Means of pairs of adjacent pixels: in 16-bit lanes, for one-byte pixels, and in blocks.
use Rattle.std.proofs.Common.{ℕ, zero, suc, ◌≡◌, ◌+◌, ◌*◌, ◌/◌, ◌%◌, ◌<◌, ◌≤◌, List, [], ◌∷◌, length, take, drop}
use Rattle.std.proofs.Common.{bit_and, refl, sym, ◌∙◌, ap, arith, map, length-take-le}
use Rattle.std.specs.Simd.Lanes.{Each1, number_l, digits_l}
use Rattle.std.proofs.Math.Nat.{mul-suc}
use Rattle.std.proofs.Math.Seq.{take-add}
use Rattle.std.proofs.lemmas.Nat.{and_mask}
use Rattle.std.proofs.lemmas.Slice.{take-put_mid}
use borrow.Rule.Slice.PartMut.{put_mid}
use Rattle.v_frame.specs.Prelude.{PixelForm, halved, one_byte, rounded_mean}
use Rattle.v_frame_raster.proofs.HalfRows.{halved-append, HalvedUpTo}

-- The mean of the two bytes in a 16-bit lane.
abbrev pub lane_mean : ℕ → ℕ
lane_mean lane = ((bit_and lane 255 + lane / 256) % 65536 + 1) % 65536 / 2

pub means_in_lanes : (n : ℕ) (bytes : List ℕ) → 2 * n ≤ length bytes → Each1 (λ byte. byte < 256) bytes
    → map lane_mean (digits_l 65536 n (number_l 256 (take (2 * n) bytes)))
    ≡ halved one_byte (take (2 * n) bytes) (take (2 * n) bytes)
means_in_lanes zero bytes long small = refl
means_in_lanes (suc n) (low ∷ high ∷ bytes) long small =
    let e : 2 * suc n ≡ suc (suc (2 * n)) = omega arith in
    let rest : ℕ = number_l 256 (take (2 * n) bytes) in
    let lane : (low + 256 * (high + 256 * rest)) % 65536 ≡ low + 256 * high = omega (arith, small) in
    let left : (low + 256 * (high + 256 * rest)) / 65536 ≡ rest = omega (arith, small) in
    let first : bit_and (low + 256 * high) 255 ≡ low = and_mask (low + 256 * high) 8 ∙ omega (arith, small) in
    let second : (low + 256 * high) / 256 ≡ high = omega (arith, small) in
    let mean : ((low + high) % 65536 + 1) % 65536 / 2 ≡ (low + high + low + high + 2) / 4 = omega (arith, small) in
    rw (e, lane, left, first, second, mean, means_in_lanes n bytes (omega (arith, long)) small.1.1)
means_in_lanes n bytes long small = absurd (omega (arith, long))

module _ {T : Type 0} (form : PixelForm T) where
  -- The means of the values of pixels are the values of the means of the pixels.
  pub means_of_values : (n : ℕ) (xs : List T) → length xs ≡ 2 * n
      → map form.pixel_of (halved one_byte (map form.value xs) (map form.value xs)) ≡ halved form xs xs
  means_of_values zero [] long = refl
  means_of_values (suc n) (p ∷ q ∷ xs) long =
      let mean = rounded_mean (form.value p) (form.value q) (form.value p) (form.value q) in
      ap (λ rest. form.pixel_of mean ∷ rest) (means_of_values n xs (omega (arith, long)))
  means_of_values n xs long = absurd (omega (arith, long))

  -- The loop step: one more block of `n` means.
  pub more_means : (n k : ℕ) (source row part : List T) → n * k + n ≤ length row → length source ≡ 2 * length row
      → length part ≡ n
      → part ≡ halved form (take (2 * n) (drop (2 * (n * k)) source)) (take (2 * n) (drop (2 * (n * k)) source))
      → HalvedUpTo form (n * k) row source source
      → HalvedUpTo form (n * (k + 1)) (put_mid (n * k) n row part) source source
  more_means n k source row part room long count is so_far =
      let next : n * (k + 1) ≡ n * k + n = omega (arith, mul-suc n k) in
      let both : 2 * (n * k + n) ≡ 2 * (n * k) + 2 * n = omega arith in
      let front = take-put_mid (n * k) n row part (n * k + n) (omega (arith, count)) (omega (arith, room)) in
      let front_long = length-take-le (2 * (n * k)) source (omega (arith, room, long)) in
      rw (next, front, both, take-add (2 * (n * k)) (2 * n) source, so_far, is)
      (sym (halved-append form (n * k) _ _ _ _ front_long front_long))
