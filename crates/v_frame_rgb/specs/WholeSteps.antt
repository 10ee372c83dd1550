-- The steps of the standards as integers with a common denominator.
use Rattle.std.specs.Prelude.{ℕ, ◌≡◌, ◌-◌, ◌*◌, ◌^◌, ◌<◌}
use Rattle.v_frame_rgb.specs.Standards.{ColorSteps, Fraction, Weights, green_weight, weights_of}
use Rattle.v_frame_rgb.specs.declared.standard.Standard.{Standard}
use Rattle.v_frame_rgb.specs.declared.standard.ColorRange.{ColorRange}
use Rattle.v_frame_rgb.specs.declared.standard.ColorRange.TheVariants.{Limited, Full}
use Rattle.v_frame_rgb.specs.declared.whole_steps.WholeSteps.{WholeSteps}

-- The unit in which the levels at a bit depth are counted, and the numbers of units of luma and
-- chroma.
abbrev pub unit_at : ColorRange → ℕ → ℕ
unit_at Limited depth = 2 ^ (depth - 8)
unit_at Full depth = 2 ^ depth - 1

abbrev pub luma_units : ColorRange → ℕ
luma_units Limited = 219
luma_units Full = 1

abbrev pub chroma_units : ColorRange → ℕ
chroma_units Limited = 224
chroma_units Full = 1

-- The steps as integers. Their common denominator is `scale` times the unit.
abbrev pub whole_steps_of : Standard → ColorRange → WholeSteps
whole_steps_of standard range =
    let k : Weights = weights_of standard in
    let green = green_weight k in
    let luma = luma_units range in
    let chroma = chroma_units range in record {
      scale = 10000 * green * luma * chroma;
      luma = 10000 * green * chroma * 255;
      red_v = 2 * (10000 - k.red) * 255 * green * luma;
      green_u = 2 * k.blue * (10000 - k.blue) * 255 * luma;
      green_v = 2 * k.red * (10000 - k.red) * 255 * luma;
      blue_u = 2 * (10000 - k.blue) * 255 * green * luma;
    }

-- `count / scale` equals the fraction.
pub record IsPart (scale count : ℕ) (f : Fraction) : Type 0 where
  pub some : 0 < f.under
  pub same : scale * f.over ≡ count * f.under

pub record AreSteps (steps : ColorSteps) (scale : ℕ) (whole : WholeSteps) : Type 0 where
  pub some : 0 < scale
  pub luma : IsPart scale whole.luma steps.luma
  pub red_v : IsPart scale whole.red_v steps.red_v
  pub green_u : IsPart scale whole.green_u steps.green_u
  pub green_v : IsPart scale whole.green_v steps.green_v
  pub blue_u : IsPart scale whole.blue_u steps.blue_u

-- These numbers are so small that sums of weighted samples fit 64 bits.
pub record AreSmall (scale : ℕ) (whole : WholeSteps) : Type 0 where
  pub denominator : scale < 2 ^ 59
  pub luma : whole.luma < 2 ^ 43
  pub red_v : whole.red_v < 2 ^ 43
  pub green_u : whole.green_u < 2 ^ 43
  pub green_v : whole.green_v < 2 ^ 43
  pub blue_u : whole.blue_u < 2 ^ 43
