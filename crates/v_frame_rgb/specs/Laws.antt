-- The distance between the integer coefficients and the fractions of the standards, stated as
-- differences over common denominators.
use Rattle.std.specs.Prelude.{ℕ, ◌+◌, ◌*◌, ◌<◌, ◌≤◌}
use Rattle.std.specs.Int.{abs_diff}
use Rattle.v_frame_rgb.specs.Standards.{Fraction, ColorSteps, Levels, color_steps, weights_of}
use Rattle.v_frame_rgb.specs.Standards.{SampleSteps, sample_steps, levels_of, gray}
use Rattle.v_frame_rgb.specs.Colors.{rgb_matrix_of, color_scale, red_bright, red_dark, green_bright}
use Rattle.v_frame_rgb.specs.Colors.{green_dark, blue_bright, blue_dark, color_of, yuv_matrix_of}
use Rattle.v_frame_rgb.specs.Colors.{sample_scale, y_bright, u_bright, u_dark, v_bright, v_dark}
use Rattle.v_frame_rgb.specs.Colors.{y_of, u_of, v_of}
use Rattle.v_frame_rgb.specs.declared.color.Color.{Color}
use Rattle.v_frame_rgb.specs.declared.standard.Standard.{Standard}
use Rattle.v_frame_rgb.specs.declared.standard.ColorRange.{ColorRange}
use Rattle.v_frame_rgb.specs.declared.standard.ColorRange.TheVariants.{Limited, Full}

-- (bright - dark) / scale and (over - less) / under differ by at most 0.01.
abbrev pub IsWithinHundredth : ℕ → ℕ → ℕ → ℕ → ℕ → ℕ → Type 0
IsWithinHundredth scale bright dark under over less =
    100 * abs_diff (under * bright + scale * less) (under * dark + scale * over) ≤ scale * under

-- A color by the fractions of the standard: f (y - black) + g (c - gray) for one chroma sample c.
module _ (standard : Standard) (range : ColorRange) where
  abbrev steps : ColorSteps
  steps = color_steps (weights_of standard) (levels_of range)

  abbrev levels : Levels
  levels = levels_of range

  abbrev sum_of_two : Fraction → Fraction → ℕ → ℕ → ℕ
  sum_of_two f g y c = f.over * g.under * y + g.over * f.under * c

  module _ (y u v : ℕ) where
    abbrev pub RedIsNear : Type 0
    RedIsNear =
        let m = rgb_matrix_of standard range in
        IsWithinHundredth color_scale (red_bright m y u v) (red_dark m y u v)
        (steps.luma.under * steps.red_v.under)
        (sum_of_two steps.luma steps.red_v y v)
        (sum_of_two steps.luma steps.red_v levels.black gray)

    abbrev pub BlueIsNear : Type 0
    BlueIsNear =
        let m = rgb_matrix_of standard range in
        IsWithinHundredth color_scale (blue_bright m y u v) (blue_dark m y u v)
        (steps.luma.under * steps.blue_u.under)
        (sum_of_two steps.luma steps.blue_u y u)
        (sum_of_two steps.luma steps.blue_u levels.black gray)

    abbrev pub GreenIsNear : Type 0
    GreenIsNear =
        let m = rgb_matrix_of standard range in
        let y_part = steps.luma.over * steps.green_u.under * steps.green_v.under in
        let u_part = steps.green_u.over * steps.luma.under * steps.green_v.under in
        let v_part = steps.green_v.over * steps.luma.under * steps.green_u.under in
        IsWithinHundredth color_scale (green_bright m y u v) (green_dark m y u v)
        (steps.luma.under * steps.green_u.under * steps.green_v.under)
        (y_part * y + (u_part * gray + v_part * gray))
        (y_part * levels.black + (u_part * u + v_part * v))

-- A color whose channels are bytes.
pub record HasBytes (color : Color) : Type 0 where
  pub red : color.red < 256
  pub green : color.green < 256
  pub blue : color.blue < 256

-- A sample by the fractions of the standard: an offset, to which each channel of the color adds a
-- product, or from which it subtracts one.
module _ (standard : Standard) (range : ColorRange) (color : Color) where
  abbrev parts : SampleSteps
  parts = sample_steps (weights_of standard) (levels_of range)

  -- The product of a fraction and a channel, over a common denominator with two other fractions.
  abbrev part : Fraction → Fraction → Fraction → ℕ → ℕ
  part f g h channel = f.over * g.under * h.under * channel

  abbrev common : Fraction → Fraction → Fraction → ℕ
  common f g h = f.under * g.under * h.under

  abbrev pub LumaIsNear : Type 0
  LumaIsNear =
      let under = common parts.y_red parts.y_green parts.y_blue in
      let levels : Levels = levels_of range in
      IsWithinHundredth sample_scale (y_bright (yuv_matrix_of standard range) color) 0 under
      (levels.black * under
      + (part parts.y_red parts.y_green parts.y_blue color.red
      + part parts.y_green parts.y_red parts.y_blue color.green
      + part parts.y_blue parts.y_red parts.y_green color.blue)) 0

  abbrev pub ChromaUIsNear : Type 0
  ChromaUIsNear =
      let under = common parts.u_red parts.u_green parts.u_blue in
      let m = yuv_matrix_of standard range in
      IsWithinHundredth sample_scale (u_bright m color) (u_dark m color) under
      (gray * under + part parts.u_blue parts.u_red parts.u_green color.blue)
      (part parts.u_red parts.u_green parts.u_blue color.red
      + part parts.u_green parts.u_red parts.u_blue color.green)

  abbrev pub ChromaVIsNear : Type 0
  ChromaVIsNear =
      let under = common parts.v_red parts.v_green parts.v_blue in
      let m = yuv_matrix_of standard range in
      IsWithinHundredth sample_scale (v_bright m color) (v_dark m color) under
      (gray * under + part parts.v_red parts.v_green parts.v_blue color.red)
      (part parts.v_green parts.v_red parts.v_blue color.green
      + part parts.v_blue parts.v_red parts.v_green color.blue)

-- The largest difference in blue after a conversion to samples and back.
abbrev pub blue_loss : ColorRange → ℕ
blue_loss Limited = 2
blue_loss Full = 1

-- A color was converted to 8-bit samples and back. Red and green differ by at most 1, and blue by
-- at most `blue_loss`.
pub record ComesBack (range : ColorRange) (color back : Color) : Type 0 where
  pub red : abs_diff back.red color.red ≤ 1
  pub green : abs_diff back.green color.green ≤ 1
  pub blue : abs_diff back.blue color.blue ≤ blue_loss range

-- The color of the samples of a color.
abbrev pub and_back : Standard → ColorRange → Color → Color
and_back standard range color =
    let m = yuv_matrix_of standard range in
    color_of (rgb_matrix_of standard range) (y_of m color) (u_of m color) (v_of m color)
