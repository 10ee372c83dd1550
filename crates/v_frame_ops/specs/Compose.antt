-- Pixels computed from two pixels: weighted means and amplified differences. It also defines the
-- position of a pixel of one picture in another picture.
use Rattle.std.specs.Prelude.{ℕ, ℤ, pos, ◌≡◌, ◌+◌, ◌+ℤ◌, ◌-◌, ◌*◌, ◌/◌, ◌^◌, min, List}
use Rattle.std.specs.Prelude.{Some, slice_get}
use Rattle.std.specs.Int.{abs_diff}
use Rattle.v_frame.specs.Prelude.{PixelForm}

-- The mean of `p` and `q`, in which `q` has the weight `weight / parts` and `p` the rest, rounded
-- to the nearest integer, halves up.
abbrev pub weighted_mean : ℕ → ℕ → ℕ → ℕ → ℕ
weighted_mean parts weight p q = (p * (parts - weight) + q * weight + parts / 2) / parts

-- The absolute difference of two values, multiplied by `gain` and clipped to the largest value of
-- the bit depth.
abbrev pub amplified_difference : ℕ → ℕ → ℕ → ℕ → ℕ
amplified_difference gain depth p q = min (abs_diff p q * gain) (2 ^ depth - 1)

module _ {T : Type 0} (form : PixelForm T) where
  -- The weighted mean of two pixels, and below it their amplified difference.
  abbrev pub blended : ℕ → ℕ → T → T → T
  blended parts weight p q =
      form.pixel_of (weighted_mean parts weight (form.value p) (form.value q))

  abbrev pub difference_of : ℕ → ℕ → T → T → T
  difference_of gain depth p q =
      form.pixel_of (amplified_difference gain depth (form.value p) (form.value q))

-- Each item of `old` became its blend with the item of `source` at the same index. The weight is
-- the item of `mask` at that index, out of 255.
abbrev pub BlendsByMask : {T : Type 0} → PixelForm T → List T → List T → List ℕ → List T → Type 0
BlendsByMask {T} form old source mask new =
    (k : ℕ) (p q : T) (weight : ℕ) → slice_get old k ≡ Some p → slice_get source k ≡ Some q
    → slice_get mask k ≡ Some weight → slice_get new k ≡ Some (blended form 255 weight p q)

-- A picture is placed at column `x` of row `y` of another picture, and both numbers may be
-- negative. Then its pixel (i, j) lies on the pixel (k, l) of the other picture.
pub record LiesOn (x y : ℤ) (i j k l : ℕ) : Type 0 where
  pub across : pos k ≡ x +ℤ pos i
  pub down : pos l ≡ y +ℤ pos j
