-- Rows of pixels: measures of the difference between two rows, and the row of half the size that is
-- computed from two rows.
use Rattle.std.specs.Prelude.{ℕ, ◌+◌, ◌*◌, ◌/◌, List, [], ◌∷◌, sum_by, zip}
use Rattle.std.specs.Int.{abs_diff}
use Rattle.v_frame_raster.specs.Pixel.{PixelForm}

-- The square of the difference of two values.
abbrev pub squared_error : ℕ → ℕ → ℕ
squared_error p q = abs_diff p q * abs_diff p q

-- The mean of four values, rounded to the nearest integer, halves up.
abbrev pub rounded_mean : ℕ → ℕ → ℕ → ℕ → ℕ
rounded_mean a b c d = (a + b + c + d + 2) / 4

module _ {T : Type 0} (value : T → ℕ) where
  -- The sum of the absolute differences of the values at each index.
  abbrev pub absolute_differences : List T → List T → ℕ
  absolute_differences xs ys = sum_by (λ p. abs_diff (value p.0) (value p.1)) (zip xs ys)

  -- The sum of the squared differences of the values at each index.
  abbrev pub squared_errors : List T → List T → ℕ
  squared_errors xs ys = sum_by (λ p. squared_error (value p.0) (value p.1)) (zip xs ys)

module _ {T : Type 0} (form : PixelForm T) where
  -- One pixel for each square of two by two pixels: the rounded mean of the four.
  abbrev pub halved : List T → List T → List T
  halved (a ∷ b ∷ top) (c ∷ d ∷ bottom) =
      let mean = rounded_mean (form.value a) (form.value b) (form.value c) (form.value d) in
      form.pixel_of mean ∷ halved top bottom
  halved top bottom = []
