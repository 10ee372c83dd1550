-- Rows of half the width, pixel by pixel.
use Rattle.std.proofs.Common.{ℕ, zero, suc, ◌≡◌, ◌+◌, ◌-◌, ◌*◌, ◌/◌, ◌<◌, ◌≤◌, List, ◌∷◌, length, take, drop, min, Some}
use Rattle.std.proofs.Common.{◌++◌, inl, inr, slice_get, refl, sym, ◌∙◌, ap, arith, length-append, length-drop}
use Rattle.std.proofs.lemmas.Bool.{cases_lt}
use Rattle.std.specs.Option.{option_map_or}
use Rattle.std.proofs.Math.Nat.{min-eq_left}
use Rattle.v_frame.specs.Prelude.{PixelForm, halved, rounded_mean}
use Rattle.v_frame_raster.proofs.tables.Lists.{slice_get-drop}
use Rattle.v_frame_raster.proofs.tables.ListItems.{slice_get-append_left, slice_get-append_right}
use Rattle.v_frame_convert.specs.Scale.{nearest_value}
use Rattle.v_frame_convert.specs.ScaledRows.{mean_in_two_rows}
use Rattle.v_frame_convert.specs.declared.scale.Scale.TheVariants.{Half}

module _ {T : Type 0} (form : PixelForm T) where
  -- The value of the item at an index, if the list has it.
  abbrev value_of_item : List T → ℕ → ℕ
  value_of_item row x = option_map_or form.value (slice_get row x) 0

  pub nearest_is : (row : List T) (x : ℕ) → x < length row → nearest_value form row x ≡ value_of_item row x
  nearest_is row x h =
      let here : min x (length row - 1) ≡ x = min-eq_left (omega arith) in
      ap (λ k. option_map_or form.value (slice_get row k) 0) here

  pixel_by_items : (n x : ℕ) (top bottom : List T) → x < n → 2 * n ≤ length top → 2 * n ≤ length bottom
      → slice_get (halved form (take (2 * n) top) (take (2 * n) bottom)) x ≡ Some (form.pixel_of (rounded_mean
      (value_of_item top (2 * x)) (value_of_item top (2 * x + 1)) (value_of_item bottom (2 * x))
      (value_of_item bottom (2 * x + 1))))
  pixel_by_items (suc n) zero (a ∷ b ∷ top) (c ∷ d ∷ bottom) h long long1 =
      let e : 2 * suc n ≡ suc (suc (2 * n)) = omega arith in
      rw e refl
  pixel_by_items (suc n) (suc x) (a ∷ b ∷ top) (c ∷ d ∷ bottom) h long long1 =
      let e : 2 * suc n ≡ suc (suc (2 * n)) = omega arith in
      let f : 2 * suc x ≡ suc (suc (2 * x)) = omega arith in
      let s : 2 * suc x + 1 ≡ suc (suc (2 * x + 1)) = omega arith in
      rw (s, e, f) (pixel_by_items n x top bottom (omega arith) (omega (arith, long)) (omega (arith, long1)))
  pixel_by_items n x top bottom h long long1 = absurd (omega (arith, h, long, long1))

  -- The pixels that are computed from pairs of pixels.
  pub pixel_of_halves : (n x : ℕ) (top bottom : List T) → x < n → 2 * n ≤ length top → length bottom ≡ length top
      → slice_get (halved form (take (2 * n) top) (take (2 * n) bottom)) x
      ≡ Some (form.pixel_of (mean_in_two_rows form Half top bottom x))
  pixel_of_halves n x top bottom h long same =
      let a = nearest_is top (2 * x) (omega arith) in
      let b = nearest_is top (2 * x + 1) (omega arith) in
      let c = nearest_is bottom (2 * x) (omega arith) in
      let d = nearest_is bottom (2 * x + 1) (omega arith) in
      let mean : mean_in_two_rows form Half top bottom x ≡ rounded_mean (value_of_item top (2 * x))
      (value_of_item top (2 * x + 1)) (value_of_item bottom (2 * x)) (value_of_item bottom (2 * x + 1)) =
      rw (a, b, c, d) (ap (λ s. (s + 2) / 4) (omega arith)) in
      pixel_by_items n x top bottom h long (omega arith) ∙ ap (λ m. Some (form.pixel_of m)) (sym mean)

  -- The last pixel of an odd width.
  pub last_mean : (n : ℕ) (top bottom : List T) (p q : T) → length top ≡ 2 * n + 1 → length bottom ≡ length top
      → slice_get top (2 * n) ≡ Some p → slice_get bottom (2 * n) ≡ Some q
      → mean_in_two_rows form Half top bottom n ≡ (form.value p + form.value q + 1) / 2
  last_mean n top bottom p q long same is under =
      let here : min (2 * n) (length top - 1) ≡ 2 * n = omega arith in
      let past : min (2 * n + 1) (length top - 1) ≡ 2 * n = omega arith in
      let here1 : min (2 * n) (length bottom - 1) ≡ 2 * n = omega arith in
      let past1 : min (2 * n + 1) (length bottom - 1) ≡ 2 * n = omega arith in
      rw (here, past, here1, past1, is, under) (omega arith)

  -- The pixels from pairs, and the pixel that is written after them.
  pub with_last : (n : ℕ) (top bottom front rest : List T) → length front ≡ n
      → front ≡ halved form (take (2 * n) top) (take (2 * n) bottom) → 2 * n ≤ length top → length bottom ≡ length top
      → ((x : ℕ) → x < length rest
      → slice_get rest x ≡ Some (form.pixel_of (mean_in_two_rows form Half top bottom (n + x))))
      → (x : ℕ) → x < length (front ++ rest)
      → slice_get (front ++ rest) x ≡ Some (form.pixel_of (mean_in_two_rows form Half top bottom x))
  with_last n top bottom front rest count is long same each x h =
      elim (cases_lt x n) [
        | inl here ↦
            slice_get-append_left front rest x (omega (arith, count))
            ∙ ap (λ row. slice_get row x) is ∙ pixel_of_halves n x top bottom here long same
        | inr past ↦
            let at : x ≡ length front + (x - n) = omega (arith, count) in
            let back : n + (x - n) ≡ x = omega arith in
            let low : x - n < length rest = omega (arith, h, length-append front rest, count) in
            ap (slice_get (front ++ rest)) at ∙ slice_get-append_right front rest (x - n) ∙ each (x - n) low
            ∙ ap (λ k. Some (form.pixel_of (mean_in_two_rows form Half top bottom k))) back
      ]

  -- After `m` pairs, the means of a row are the means of the rest of the row.
  nearest_past : (m k : ℕ) (row : List T) → m < length row
      → nearest_value form (drop m row) k ≡ nearest_value form row (m + k)
  nearest_past m k row some =
      let here : m + min k (length (drop m row) - 1) ≡ min (m + k) (length row - 1) =
      omega (arith, length-drop m row) in
      ap (λ item. option_map_or form.value item 0)
      (slice_get-drop m row (min k (length (drop m row) - 1)) ∙ ap (slice_get row) here)

  pub mean_past : (n x : ℕ) (row : List T) → 2 * n < length row
      → mean_in_two_rows form Half (drop (2 * n) row) (drop (2 * n) row) x ≡ mean_in_two_rows form Half row row (n + x)
  mean_past n x row some =
      let even : 2 * (n + x) ≡ 2 * n + 2 * x = omega arith in
      let odd : 2 * (n + x) + 1 ≡ 2 * n + (2 * x + 1) = omega arith in
      rw (odd, even, nearest_past (2 * n) (2 * x) row some, nearest_past (2 * n) (2 * x + 1) row some)
