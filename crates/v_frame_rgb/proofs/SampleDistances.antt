-- The integer coefficients are near the fractions of the standards, for the conversion to samples.
use Rattle.std.proofs.Common.{arith}
use Rattle.v_frame_rgb.specs.Laws.{HasBytes, LumaIsNear, ChromaUIsNear, ChromaVIsNear}
use Rattle.v_frame_rgb.specs.declared.standard.Standard.{Standard}
use Rattle.v_frame_rgb.specs.declared.standard.Standard.TheVariants.{Bt601, Bt709, Bt2020}
use Rattle.v_frame_rgb.specs.declared.standard.ColorRange.{ColorRange}
use Rattle.v_frame_rgb.specs.declared.standard.ColorRange.TheVariants.{Limited, Full}
use Rattle.v_frame_rgb.specs.declared.color.Color.{Color}

pub luma_near : (standard : Standard) (range : ColorRange) (color : Color) → HasBytes color → LumaIsNear standard
    range color
luma_near Bt601 Limited color bytes = omega arith
luma_near Bt601 Full color bytes = omega arith
luma_near Bt709 Limited color bytes = omega arith
luma_near Bt709 Full color bytes = omega arith
luma_near Bt2020 Limited color bytes = omega arith
luma_near Bt2020 Full color bytes = omega arith

pub chroma_u_near : (standard : Standard) (range : ColorRange) (color : Color) → HasBytes color → ChromaUIsNear
    standard range color
chroma_u_near Bt601 Limited color bytes = omega arith
chroma_u_near Bt601 Full color bytes = omega arith
chroma_u_near Bt709 Limited color bytes = omega arith
chroma_u_near Bt709 Full color bytes = omega arith
chroma_u_near Bt2020 Limited color bytes = omega arith
chroma_u_near Bt2020 Full color bytes = omega arith

pub chroma_v_near : (standard : Standard) (range : ColorRange) (color : Color) → HasBytes color → ChromaVIsNear
    standard range color
chroma_v_near Bt601 Limited color bytes = omega arith
chroma_v_near Bt601 Full color bytes = omega arith
chroma_v_near Bt709 Limited color bytes = omega arith
chroma_v_near Bt709 Full color bytes = omega arith
chroma_v_near Bt2020 Limited color bytes = omega arith
chroma_v_near Bt2020 Full color bytes = omega arith
