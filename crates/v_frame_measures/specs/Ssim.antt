-- The structural similarity (SSIM) of two pictures, with the order of all roundings: the mean over
-- windows of 8 by 8 pixels at every fourth column and row. The sums over a window are integers, and
-- the similarity of a window is computed from them in `f32`. The windows of a line are added from
-- left to right, and then the lines from top to bottom.
use Rattle.std.specs.Prelude.{ℕ, ◌+◌, ◌-◌, ◌*◌, ◌/◌, ◌^◌, ◌==◌, ℤ, pos, ◌-ℤ◌, if◌then◌else◌, List, map, min}
use Rattle.std.specs.List.{fold, range_with_len}
use Rattle.std.specs.Float.{float_zero}
use Rattle.std.specs.Float.Ieee.{Float, Format, binary32, binary64, add, mul, div, of_int}
use Rattle.v_frame.specs.Prelude.{PixelForm, Table, width_of, height_of}
use Rattle.v_frame_measures.specs.declared.similarity.sums.PixelSums.{PixelSums}
use Rattle.v_frame_measures.specs.declared.similarity.window.SsimConstants.{SsimConstants}
use Rattle.v_frame_measures.specs.PixelSums.{sums_of_rectangle}

-- The sum of floats from the first to the last, rounded after each addition.
abbrev pub total : Format → List Float → Float
total format values = fold (add format) float_zero values

-- The largest value of a bit depth, where a depth above 16 counts as 16.
abbrev pub peak_of : ℕ → ℕ
peak_of depth = 2 ^ min depth 16 - 1

-- The constants of SSIM: `(0.01 * peak)^2` for the means and `(0.03 * peak)^2` for the variances.
-- Both are scaled by the 64 pixels of a window, the second one also by 63, the divisor of an
-- unbiased variance. Both are rounded to integers.
abbrev pub constants_of : ℕ → SsimConstants
constants_of peak =
    record {
      means = (64 * (peak * peak) + 5000) / 10000;
      variances = (36288 * (peak * peak) + 5000) / 10000;
    }

-- An integer, rounded to the nearest `f32`.
abbrev pub single : ℤ → Float
single n = of_int binary32 n

-- The similarity of two windows of 64 pixels. Let s and t be the sums of the values of the two
-- windows, q the sum of all squared values, and p the sum of the products. The product of the means
-- is s * t, the covariance is 64 * p - s * t, and the sum of the variances is 64 * q - (s * s + t *
-- t). Each is scaled by a constant factor.
abbrev pub similarity_of : SsimConstants → PixelSums → Float
similarity_of constants sums =
    let product = sums.first * sums.second in
    let squares = sums.first * sums.first + sums.second * sums.second in
    let means = single (pos (2 * product + constants.means)) in
    let covariance =
    single (pos (128 * sums.products + constants.variances) -ℤ pos (2 * product))
    in
    let mean_squares = single (pos (squares + constants.means)) in
    let variances = single (pos (64 * sums.squares + constants.variances) -ℤ pos squares) in
    div binary32 (mul binary32 means covariance) (mul binary32 mean_squares variances)

-- The number of windows along a side of `size` pixels, which is at least 8.
abbrev pub windows_along : ℕ → ℕ
windows_along size = size / 4 - 1

-- The format in which the windows of a line are added: `f64` for pixels of one byte, `f32` for
-- pixels of two bytes.
abbrev pub line_format : ℕ → Format
line_format bytes = if bytes == 1 then binary64 else binary32

module _ {T : Type 0} (form : PixelForm T) (constants : SsimConstants) (a b : Table T) where
  -- The similarity of window `x` in line `y`.
  abbrev pub window_at : ℕ → ℕ → Float
  window_at x y = similarity_of constants (sums_of_rectangle form.value (4 * x) (4 * y) 8 8 a b)

  -- The sum of the similarities of line `y`.
  abbrev pub line_of : Format → ℕ → Float
  line_of format y =
      total format (map (λ x. window_at x y) (range_with_len 0 (windows_along (width_of a))))

  -- The sum of the similarities of all lines.
  abbrev pub sum_of_lines : Float
  sum_of_lines =
      let lines = range_with_len 0 (windows_along (height_of a)) in
      total binary64 (map (line_of (line_format form.size)) lines)

-- The mean similarity of all windows.
abbrev pub ssim_of : {T : Type 0} → PixelForm T → ℕ → Table T → Table T → Float
ssim_of form peak a b =
    div binary64 (sum_of_lines form (constants_of peak) a b)
    (of_int binary64 (pos (windows_along (width_of a) * windows_along (height_of a))))
