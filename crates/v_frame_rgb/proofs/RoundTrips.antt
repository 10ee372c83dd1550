-- A color that is converted to samples and back stays near the original, by a bound on each step.
use Rattle.std.proofs.Common.{ℕ, ◌+◌, ◌*◌, ◌<◌, ◌≤◌, arith}
use Rattle.std.specs.Int.{abs_diff}
use Rattle.v_frame_rgb.specs.Colors.{sample_of, color_scale, sample_scale, rgb_matrix_of, yuv_matrix_of}
use Rattle.v_frame_rgb.specs.Colors.{red_bright, red_dark, green_bright, green_dark, blue_bright, blue_dark}
use Rattle.v_frame_rgb.specs.Colors.{y_bright, u_bright, u_dark, v_bright, v_dark, y_of, u_of, v_of}
use Rattle.v_frame_rgb.specs.Laws.{HasBytes, ComesBack, and_back, blue_loss}
use Rattle.v_frame_rgb.specs.declared.standard.Standard.{Standard}
use Rattle.v_frame_rgb.specs.declared.standard.Standard.TheVariants.{Bt601, Bt709, Bt2020}
use Rattle.v_frame_rgb.specs.declared.standard.ColorRange.{ColorRange}
use Rattle.v_frame_rgb.specs.declared.standard.ColorRange.TheVariants.{Limited, Full}
use Rattle.v_frame_rgb.specs.declared.color.Color.{Color}

-- A sample times its scale differs from the exact difference by at most half of the scale.
pub record IsRounded (bright dark sample : ℕ) : Type 0 where
  pub low : sample_scale * sample + dark ≤ bright + 32768
  pub high : bright + 32768 ≤ dark + sample_scale * sample + sample_scale

rounded : (bright dark : ℕ) → dark ≤ bright + 32768 → bright + 32768 ≤ dark + 16777216
    → IsRounded bright dark (sample_of sample_scale bright dark)
rounded bright dark low high = record { low = omega arith; high = omega arith }

-- If a channel is near the original before it is rounded and clipped, it is as near afterwards.
within : (steps channel bright dark : ℕ) → channel < 256 → bright + 8192 < dark + color_scale * (channel + steps + 1)
    → dark + color_scale * channel ≤ bright + 8192 + color_scale * steps
    → abs_diff (sample_of color_scale bright dark) channel ≤ steps
within steps channel bright dark byte high low = omega arith

-- Clipping changes no sample of a color by more than rounding does.

y_rounded : (standard : Standard) (range : ColorRange) (color : Color) → HasBytes color
    → let m = yuv_matrix_of standard range in IsRounded (y_bright m color) 0 (y_of m color)
y_rounded Bt601 Limited color bytes = rounded _ _ (omega arith) (omega arith)
y_rounded Bt601 Full color bytes = rounded _ _ (omega arith) (omega arith)
y_rounded Bt709 Limited color bytes = rounded _ _ (omega arith) (omega arith)
y_rounded Bt709 Full color bytes = rounded _ _ (omega arith) (omega arith)
y_rounded Bt2020 Limited color bytes = rounded _ _ (omega arith) (omega arith)
y_rounded Bt2020 Full color bytes = rounded _ _ (omega arith) (omega arith)

u_rounded : (standard : Standard) (range : ColorRange) (color : Color) → HasBytes color
    → let m = yuv_matrix_of standard range in IsRounded (u_bright m color) (u_dark m color) (u_of m color)
u_rounded Bt601 Limited color bytes = rounded _ _ (omega arith) (omega arith)
u_rounded Bt601 Full color bytes = rounded _ _ (omega arith) (omega arith)
u_rounded Bt709 Limited color bytes = rounded _ _ (omega arith) (omega arith)
u_rounded Bt709 Full color bytes = rounded _ _ (omega arith) (omega arith)
u_rounded Bt2020 Limited color bytes = rounded _ _ (omega arith) (omega arith)
u_rounded Bt2020 Full color bytes = rounded _ _ (omega arith) (omega arith)

v_rounded : (standard : Standard) (range : ColorRange) (color : Color) → HasBytes color
    → let m = yuv_matrix_of standard range in IsRounded (v_bright m color) (v_dark m color) (v_of m color)
v_rounded Bt601 Limited color bytes = rounded _ _ (omega arith) (omega arith)
v_rounded Bt601 Full color bytes = rounded _ _ (omega arith) (omega arith)
v_rounded Bt709 Limited color bytes = rounded _ _ (omega arith) (omega arith)
v_rounded Bt709 Full color bytes = rounded _ _ (omega arith) (omega arith)
v_rounded Bt2020 Limited color bytes = rounded _ _ (omega arith) (omega arith)
v_rounded Bt2020 Full color bytes = rounded _ _ (omega arith) (omega arith)

-- Samples that are near the samples of a color.
pub record AreNear (standard : Standard) (range : ColorRange) (color : Color) (y u v : ℕ) : Type 0 where
  pub luma : IsRounded (y_bright (yuv_matrix_of standard range) color) 0 y
  pub chroma_u : IsRounded (u_bright (yuv_matrix_of standard range) color) (u_dark (yuv_matrix_of standard range)
      color) u
  pub chroma_v : IsRounded (v_bright (yuv_matrix_of standard range) color) (v_dark (yuv_matrix_of standard range)
      color) v

red_back : (standard : Standard) (range : ColorRange) (color : Color) (y u v : ℕ) → HasBytes color
    → AreNear standard range color y u v → let m = rgb_matrix_of standard range in
    abs_diff (sample_of color_scale (red_bright m y u v) (red_dark m y u v)) color.red ≤ 1
red_back Bt601 Limited color y u v bytes near = within 1 color.red _ _ bytes.red (omega arith) (omega arith)
red_back Bt601 Full color y u v bytes near = within 1 color.red _ _ bytes.red (omega arith) (omega arith)
red_back Bt709 Limited color y u v bytes near = within 1 color.red _ _ bytes.red (omega arith) (omega arith)
red_back Bt709 Full color y u v bytes near = within 1 color.red _ _ bytes.red (omega arith) (omega arith)
red_back Bt2020 Limited color y u v bytes near = within 1 color.red _ _ bytes.red (omega arith) (omega arith)
red_back Bt2020 Full color y u v bytes near = within 1 color.red _ _ bytes.red (omega arith) (omega arith)

green_back : (standard : Standard) (range : ColorRange) (color : Color) (y u v : ℕ) → HasBytes color
    → AreNear standard range color y u v → let m = rgb_matrix_of standard range in
    abs_diff (sample_of color_scale (green_bright m y u v) (green_dark m y u v)) color.green ≤ 1
green_back Bt601 Limited color y u v bytes near = within 1 color.green _ _ bytes.green (omega arith) (omega arith)
green_back Bt601 Full color y u v bytes near = within 1 color.green _ _ bytes.green (omega arith) (omega arith)
green_back Bt709 Limited color y u v bytes near = within 1 color.green _ _ bytes.green (omega arith) (omega arith)
green_back Bt709 Full color y u v bytes near = within 1 color.green _ _ bytes.green (omega arith) (omega arith)
green_back Bt2020 Limited color y u v bytes near = within 1 color.green _ _ bytes.green (omega arith) (omega arith)
green_back Bt2020 Full color y u v bytes near = within 1 color.green _ _ bytes.green (omega arith) (omega arith)

blue_back : (standard : Standard) (range : ColorRange) (color : Color) (y u v : ℕ) → HasBytes color
    → AreNear standard range color y u v → let m = rgb_matrix_of standard range in
    abs_diff (sample_of color_scale (blue_bright m y u v) (blue_dark m y u v)) color.blue ≤ blue_loss range
blue_back Bt601 Limited color y u v bytes near = within 2 color.blue _ _ bytes.blue (omega arith) (omega arith)
blue_back Bt601 Full color y u v bytes near = within 1 color.blue _ _ bytes.blue (omega arith) (omega arith)
blue_back Bt709 Limited color y u v bytes near = within 2 color.blue _ _ bytes.blue (omega arith) (omega arith)
blue_back Bt709 Full color y u v bytes near = within 1 color.blue _ _ bytes.blue (omega arith) (omega arith)
blue_back Bt2020 Limited color y u v bytes near = within 2 color.blue _ _ bytes.blue (omega arith) (omega arith)
blue_back Bt2020 Full color y u v bytes near = within 1 color.blue _ _ bytes.blue (omega arith) (omega arith)

pub comes_back : (standard : Standard) (range : ColorRange) (color : Color) → HasBytes color
    → ComesBack range color (and_back standard range color)
comes_back standard range color bytes =
    let near : AreNear standard range color (y_of (yuv_matrix_of standard range) color)
    (u_of (yuv_matrix_of standard range) color) (v_of (yuv_matrix_of standard range) color) =
    record {
      luma = y_rounded standard range color bytes;
      chroma_u = u_rounded standard range color bytes;
      chroma_v = v_rounded standard range color bytes;
    } in record {
      red = red_back standard range color _ _ _ bytes near;
      green = green_back standard range color _ _ _ bytes near;
      blue = blue_back standard range color _ _ _ bytes near;
    }
