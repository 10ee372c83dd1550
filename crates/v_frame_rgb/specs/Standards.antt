-- The conversions of the standards between Y'CbCr and R'G'B' as exact fractions for 8-bit samples,
-- and the integer coefficients nearest to them.
use Rattle.std.specs.Prelude.{ℕ, ◌+◌, ◌-◌, ◌*◌, ◌/◌}
use Rattle.v_frame_rgb.specs.declared.standard.Standard.{Standard}
use Rattle.v_frame_rgb.specs.declared.standard.Standard.TheVariants.{Bt601, Bt709, Bt2020}
use Rattle.v_frame_rgb.specs.declared.standard.ColorRange.{ColorRange}
use Rattle.v_frame_rgb.specs.declared.standard.ColorRange.TheVariants.{Limited, Full}

-- The weights of red (Kr) and blue (Kb) in luma, in units of 1/10000. Green has the rest.
pub record Weights : Type 0 where
  pub red : ℕ
  pub blue : ℕ

-- ITU-R BT.601-7, BT.709-6 and BT.2020-2.
abbrev pub weights_of : Standard → Weights
weights_of Bt601 = record { red = 2990; blue = 1140 }
weights_of Bt709 = record { red = 2126; blue = 722 }
weights_of Bt2020 = record { red = 2627; blue = 593 }

abbrev pub green_weight : Weights → ℕ
green_weight k = 10000 - k.red - k.blue

-- The luma sample of black, the number of luma steps from black to white, and the number of chroma
-- steps from the smallest to the largest chroma sample. A channel of a color has 255 steps.
pub record Levels : Type 0 where
  pub black : ℕ
  pub luma : ℕ
  pub chroma : ℕ

abbrev pub levels_of : ColorRange → Levels
levels_of Limited = record { black = 16; luma = 219; chroma = 224 }
levels_of Full = record { black = 0; luma = 255; chroma = 255 }

-- The chroma sample of gray.
abbrev pub gray : ℕ
gray = 128

pub record Fraction : Type 0 where
  pub over : ℕ
  pub under : ℕ

abbrev pub fraction : ℕ → ℕ → Fraction
fraction over under = record { over = over; under = under }

-- The integer nearest to a fraction multiplied by a scale.
abbrev pub nearest : ℕ → Fraction → ℕ
nearest scale f = (2 * (scale * f.over) + f.under) / (2 * f.under)

-- The change of a color for one step of luma, Cb or Cr. The two steps of green are subtracted.
pub record ColorSteps : Type 0 where
  pub luma : Fraction
  pub red_v : Fraction
  pub green_u : Fraction
  pub green_v : Fraction
  pub blue_u : Fraction

abbrev pub color_steps : Weights → Levels → ColorSteps
color_steps k levels = record {
  luma = fraction 255 levels.luma;
  red_v = fraction (2 * (10000 - k.red) * 255) (10000 * levels.chroma);
  green_u =
      fraction (2 * k.blue * (10000 - k.blue) * 255) (10000 * green_weight k * levels.chroma);
  green_v =
      fraction (2 * k.red * (10000 - k.red) * 255) (10000 * green_weight k * levels.chroma);
  blue_u = fraction (2 * (10000 - k.blue) * 255) (10000 * levels.chroma);
}

-- The change of luma, Cb and Cr for one step of a color. For Cb, blue is added, and red and green
-- are subtracted. For Cr, red is added, and green and blue are subtracted.
pub record SampleSteps : Type 0 where
  pub y_red : Fraction
  pub y_green : Fraction
  pub y_blue : Fraction
  pub u_red : Fraction
  pub u_green : Fraction
  pub u_blue : Fraction
  pub v_red : Fraction
  pub v_green : Fraction
  pub v_blue : Fraction

abbrev pub sample_steps : Weights → Levels → SampleSteps
sample_steps k levels = record {
  y_red = fraction (k.red * levels.luma) (10000 * 255);
  y_green = fraction (green_weight k * levels.luma) (10000 * 255);
  y_blue = fraction (k.blue * levels.luma) (10000 * 255);
  u_red = fraction (k.red * levels.chroma) (2 * (10000 - k.blue) * 255);
  u_green = fraction (green_weight k * levels.chroma) (2 * (10000 - k.blue) * 255);
  u_blue = fraction levels.chroma (2 * 255);
  v_red = fraction levels.chroma (2 * 255);
  v_green = fraction (green_weight k * levels.chroma) (2 * (10000 - k.red) * 255);
  v_blue = fraction (k.blue * levels.chroma) (2 * (10000 - k.red) * 255);
}
