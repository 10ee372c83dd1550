-- The integer coefficients are near the fractions of the standards.
use Rattle.std.proofs.Common.{ℕ, ◌<◌, arith}
use Rattle.v_frame_rgb.specs.Laws.{RedIsNear, GreenIsNear, BlueIsNear}
use Rattle.v_frame_rgb.specs.declared.standard.Standard.{Standard}
use Rattle.v_frame_rgb.specs.declared.standard.Standard.TheVariants.{Bt601, Bt709, Bt2020}
use Rattle.v_frame_rgb.specs.declared.standard.ColorRange.{ColorRange}
use Rattle.v_frame_rgb.specs.declared.standard.ColorRange.TheVariants.{Limited, Full}

pub red_near : (standard : Standard) (range : ColorRange) (y u v : ℕ) → y < 256 → u < 256 → v < 256 → RedIsNear
    standard range y u v
red_near Bt601 Limited y u v hy hu hv = omega arith
red_near Bt601 Full y u v hy hu hv = omega arith
red_near Bt709 Limited y u v hy hu hv = omega arith
red_near Bt709 Full y u v hy hu hv = omega arith
red_near Bt2020 Limited y u v hy hu hv = omega arith
red_near Bt2020 Full y u v hy hu hv = omega arith

pub green_near : (standard : Standard) (range : ColorRange) (y u v : ℕ) → y < 256 → u < 256 → v < 256 → GreenIsNear
    standard range y u v
green_near Bt601 Limited y u v hy hu hv = omega arith
green_near Bt601 Full y u v hy hu hv = omega arith
green_near Bt709 Limited y u v hy hu hv = omega arith
green_near Bt709 Full y u v hy hu hv = omega arith
green_near Bt2020 Limited y u v hy hu hv = omega arith
green_near Bt2020 Full y u v hy hu hv = omega arith

pub blue_near : (standard : Standard) (range : ColorRange) (y u v : ℕ) → y < 256 → u < 256 → v < 256 → BlueIsNear
    standard range y u v
blue_near Bt601 Limited y u v hy hu hv = omega arith
blue_near Bt601 Full y u v hy hu hv = omega arith
blue_near Bt709 Limited y u v hy hu hv = omega arith
blue_near Bt709 Full y u v hy hu hv = omega arith
blue_near Bt2020 Limited y u v hy hu hv = omega arith
blue_near Bt2020 Full y u v hy hu hv = omega arith
