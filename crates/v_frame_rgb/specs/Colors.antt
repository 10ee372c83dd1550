-- The color of three Y'CbCr samples, and the samples of a color, computed with integer
-- coefficients.
use Rattle.std.specs.Prelude.{ℕ, ◌+◌, ◌-◌, ◌*◌, ◌/◌, List, [], ◌∷◌, flat_map, map, min}
use Rattle.v_frame_raster.specs.Table.{Table, cut_rows}
use Rattle.v_frame_rgb.specs.Standards.{Levels, Fraction, ColorSteps, SampleSteps}
use Rattle.v_frame_rgb.specs.Standards.{weights_of, levels_of, color_steps, sample_steps, nearest}
use Rattle.v_frame_rgb.specs.Standards.{gray}
use Rattle.v_frame_rgb.specs.declared.standard.Standard.{Standard}
use Rattle.v_frame_rgb.specs.declared.standard.ColorRange.{ColorRange}
use Rattle.v_frame_rgb.specs.declared.color.Color.{Color}
use Rattle.v_frame_rgb.specs.declared.matrix.RgbMatrix.{RgbMatrix}
use Rattle.v_frame_rgb.specs.declared.matrix.YuvMatrix.{YuvMatrix}

-- (bright - dark) / scale, rounded to the nearest integer, halves up, and clipped to 0..255.
abbrev pub sample_of : ℕ → ℕ → ℕ → ℕ
sample_of scale bright dark = min ((bright + scale / 2 - dark) / scale) 255

-- Coefficients for colors are in units of 2 ^ -14, and coefficients for samples in units of 2 ^
-- -16. With these units each coefficient fits 16 bits.
abbrev pub color_scale : ℕ
color_scale = 16384

abbrev pub sample_scale : ℕ
sample_scale = 65536

-- The coefficients of a standard: for each direction, the integers nearest to its fractions.
abbrev pub rgb_matrix_of : Standard → ColorRange → RgbMatrix
rgb_matrix_of standard range =
    let levels : Levels = levels_of range in
    let steps : ColorSteps = color_steps (weights_of standard) levels in
    let whole : Fraction → ℕ = nearest color_scale in record {
      black = levels.black;
      luma = whole steps.luma;
      red_v = whole steps.red_v;
      green_u = whole steps.green_u;
      green_v = whole steps.green_v;
      blue_u = whole steps.blue_u;
    }

abbrev pub yuv_matrix_of : Standard → ColorRange → YuvMatrix
yuv_matrix_of standard range =
    let levels : Levels = levels_of range in
    let steps : SampleSteps = sample_steps (weights_of standard) levels in
    let whole : Fraction → ℕ = nearest sample_scale in record {
      black = levels.black;
      y_red = whole steps.y_red;
      y_green = whole steps.y_green;
      y_blue = whole steps.y_blue;
      u_red = whole steps.u_red;
      u_green = whole steps.u_green;
      u_blue = whole steps.u_blue;
      v_red = whole steps.v_red;
      v_green = whole steps.v_green;
      v_blue = whole steps.v_blue;
    }

-- The positive and the negative part of each channel of a color. Luma is counted from black, and
-- chroma from gray.
module _ (m : RgbMatrix) (y u v : ℕ) where
  abbrev pub red_bright : ℕ
  red_bright = m.luma * y + m.red_v * v

  abbrev pub red_dark : ℕ
  red_dark = m.luma * m.black + m.red_v * gray

  abbrev pub green_bright : ℕ
  green_bright = m.luma * y + (m.green_u * gray + m.green_v * gray)

  abbrev pub green_dark : ℕ
  green_dark = m.luma * m.black + (m.green_u * u + m.green_v * v)

  abbrev pub blue_bright : ℕ
  blue_bright = m.luma * y + m.blue_u * u

  abbrev pub blue_dark : ℕ
  blue_dark = m.luma * m.black + m.blue_u * gray

  abbrev pub color_of : Color
  color_of = record {
    red = sample_of color_scale red_bright red_dark;
    green = sample_of color_scale green_bright green_dark;
    blue = sample_of color_scale blue_bright blue_dark;
  }

-- The samples of a color, with their positive and negative parts.
module _ (m : YuvMatrix) (color : Color) where
  abbrev pub y_bright : ℕ
  y_bright =
      m.black * sample_scale
      + (m.y_red * color.red + m.y_green * color.green + m.y_blue * color.blue)

  abbrev pub u_bright : ℕ
  u_bright = gray * sample_scale + m.u_blue * color.blue

  abbrev pub u_dark : ℕ
  u_dark = m.u_red * color.red + m.u_green * color.green

  abbrev pub v_bright : ℕ
  v_bright = gray * sample_scale + m.v_red * color.red

  abbrev pub v_dark : ℕ
  v_dark = m.v_green * color.green + m.v_blue * color.blue

  abbrev pub y_of : ℕ
  y_of = sample_of sample_scale y_bright 0

  abbrev pub u_of : ℕ
  u_of = sample_of sample_scale u_bright u_dark

  abbrev pub v_of : ℕ
  v_of = sample_of sample_scale v_bright v_dark

-- The colors of a row of luma and two rows of chroma, and of a picture. `color` is the color of
-- three samples.
module _ {T : Type 0} (color : T → T → T → Color) where
  abbrev pub colors_by : List T → List T → List T → List Color
  colors_by (y ∷ ys) (u ∷ us) (v ∷ vs) = color y u v ∷ colors_by ys us vs
  colors_by ys us vs = []

  -- The bytes of these colors, row by row. `bytes_of` lists the bytes of a color.
  abbrev pub color_rows_by : (Color → List ℕ) → Table T → Table T → Table T → Table ℕ
  color_rows_by bytes_of (ys ∷ y_rows) (us ∷ u_rows) (vs ∷ v_rows) =
      flat_map bytes_of (colors_by ys us vs) ∷ color_rows_by bytes_of y_rows u_rows v_rows
  color_rows_by bytes_of y_rows u_rows v_rows = []

-- The colors of a row and the bytes of a picture, computed with integer coefficients.
abbrev pub colors_of : RgbMatrix → List ℕ → List ℕ → List ℕ → List Color
colors_of m ys us vs = colors_by (color_of m) ys us vs

abbrev pub color_rows : RgbMatrix → (Color → List ℕ) → Table ℕ → Table ℕ → Table ℕ → Table ℕ
color_rows m bytes_of y_rows u_rows v_rows =
    color_rows_by (color_of m) bytes_of y_rows u_rows v_rows

-- The colors of the first `count` pixels of a row of bytes, in which each color has `size` bytes.
abbrev pub colors_in : (List ℕ → Color) → ℕ → ℕ → List ℕ → List Color
colors_in color_at size count bytes = map color_at (cut_rows size count bytes)

-- The samples of the colors of a picture, row by row.
abbrev pub sample_rows : (Color → ℕ) → (List ℕ → Color) → ℕ → ℕ → Table ℕ → Table ℕ
sample_rows sample color_at size width rows =
    map (λ row. map sample (colors_in color_at size width row)) rows
