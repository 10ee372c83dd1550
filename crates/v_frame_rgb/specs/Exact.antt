-- The color of three samples of any bit depth by the fractions of a standard. Each channel is
-- computed exactly and rounded once.
use Rattle.std.specs.Prelude.{ℕ, ◌+◌, ◌-◌, ◌*◌, ◌^◌, List}
use Rattle.v_frame.specs.Prelude.{PixelForm}
use Rattle.v_frame_raster.specs.Table.{Table}
use Rattle.v_frame_rgb.specs.Colors.{sample_of, colors_by, color_rows_by}
use Rattle.v_frame_rgb.specs.Standards.{ColorSteps, Fraction, Levels, color_steps, fraction}
use Rattle.v_frame_rgb.specs.Standards.{weights_of}
use Rattle.v_frame_rgb.specs.declared.color.Color.{Color}
use Rattle.v_frame_rgb.specs.declared.standard.Standard.{Standard}
use Rattle.v_frame_rgb.specs.declared.standard.ColorRange.{ColorRange}
use Rattle.v_frame_rgb.specs.declared.standard.ColorRange.TheVariants.{Limited, Full}

-- The levels at a bit depth. In limited range they are those of 8 bits, multiplied by
-- 2 ^ (depth - 8). In full range they are all values.
abbrev pub levels_at : ColorRange → ℕ → Levels
levels_at Limited depth =
    let unit = 2 ^ (depth - 8) in
    record { black = 16 * unit; luma = 219 * unit; chroma = 224 * unit }
levels_at Full depth =
    let most = 2 ^ depth - 1 in record { black = 0; luma = most; chroma = most }

-- The chroma sample of gray.
abbrev pub gray_at : ℕ → ℕ
gray_at depth = 2 ^ (depth - 1)

-- A multiple of a fraction, and the sum of two fractions.
abbrev pub times : Fraction → ℕ → Fraction
times f count = fraction (f.over * count) f.under

abbrev pub plus : Fraction → Fraction → Fraction
plus f g = fraction (f.over * g.under + g.over * f.under) (f.under * g.under)

-- The difference of two fractions, rounded to the nearest integer, halves up, and clipped to
-- 0..255.
abbrev pub sample_nearest : Fraction → Fraction → ℕ
sample_nearest f g = sample_of (f.under * g.under) (f.over * g.under) (g.over * f.under)

module _ (standard : Standard) (range : ColorRange) (depth : ℕ) where
  -- The change of a color for one step of luma, Cb or Cr.
  abbrev pub steps_at : ColorSteps
  steps_at = color_steps (weights_of standard) (levels_at range depth)

  -- A channel: the luma above black, plus `more` and minus `less` for the chroma.
  abbrev pub exact_channel : ℕ → Fraction → Fraction → ℕ
  exact_channel y more less =
      sample_nearest (plus (times steps_at.luma y) more)
      (plus (times steps_at.luma (levels_at range depth).black) less)

  module _ (y u v : ℕ) where
    abbrev pub exact_red : ℕ
    exact_red =
        exact_channel y (times steps_at.red_v v) (times steps_at.red_v (gray_at depth))

    abbrev pub exact_green : ℕ
    exact_green =
        exact_channel y
        (plus (times steps_at.green_u (gray_at depth)) (times steps_at.green_v (gray_at depth)))
        (plus (times steps_at.green_u u) (times steps_at.green_v v))

    abbrev pub exact_blue : ℕ
    exact_blue =
        exact_channel y (times steps_at.blue_u u) (times steps_at.blue_u (gray_at depth))

    -- The color of a luma sample, a Cb sample and a Cr sample.
    unfoldable pub exact_color : Color
    exact_color = record { red = exact_red; green = exact_green; blue = exact_blue }

  module _ {T : Type 0} (form : PixelForm T) where
    -- The color of a luma pixel, a Cb pixel and a Cr pixel.
    unfoldable pub exact_of_pixels : T → T → T → Color
    exact_of_pixels y u v = exact_color (form.value y) (form.value u) (form.value v)

    -- The colors of a row of luma and two rows of chroma.
    abbrev pub exact_colors : List T → List T → List T → List Color
    exact_colors ys us vs = colors_by exact_of_pixels ys us vs

    -- The bytes of the colors of a picture, row by row. `bytes_of` lists the bytes of a color.
    abbrev pub exact_color_rows : (Color → List ℕ) → Table T → Table T → Table T → Table ℕ
    exact_color_rows bytes_of y_rows u_rows v_rows =
        color_rows_by exact_of_pixels bytes_of y_rows u_rows v_rows
