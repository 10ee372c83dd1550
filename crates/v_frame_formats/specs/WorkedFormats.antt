-- Names of formats that were derived by hand. Each one is proved by computation (`refl`).
use Rattle.std.specs.Prelude.{◌≡◌, codes, refl, true, None, Some}
use Rattle.std.specs.Str.{str_eq_ignore_ascii_case}
use Rattle.v_frame_formats.specs.Formats.{common_name, ffmpeg_name, full_range_format, short_name}
use Rattle.v_frame_formats.specs.declared.format.VideoFormat.TheVariants.{Planar, SemiPlanar}
use Rattle.v_frame_semi_planar.specs.declared.format.SemiPlanarFormat.TheVariants.{P010}
use Rattle.v_frame_y4m.specs.declared.color.Color.TheVariants.{Mono, Yuv420HighDepth, Yuv420Jpeg, Yuv444}
use Rattle.v_frame_y4m.specs.declared.color.Depth.TheVariants.{Ten}

short_is : short_name (Planar (Yuv420HighDepth Ten)) ≡ codes "420p10"
short_is = refl

ffmpeg_is : ffmpeg_name (Planar (Yuv420HighDepth Ten)) ≡ codes "yuv420p10le"
ffmpeg_is = refl

short_of_layout_is : short_name (SemiPlanar P010) ≡ codes "p010"
short_of_layout_is = refl

ffmpeg_of_layout_is : ffmpeg_name (SemiPlanar P010) ≡ codes "p010le"
ffmpeg_of_layout_is = refl

common_is : common_name (Planar (Yuv420HighDepth Ten)) ≡ codes "yuv420p10"
common_is = refl

common_of_gray_is : common_name (Planar Mono) ≡ codes "gray8"
common_of_gray_is = refl

-- The names I420 and i420 are the same.
upper_case_is : str_eq_ignore_ascii_case (codes "I420") (common_name (Planar Yuv420Jpeg)) ≡ true
upper_case_is = refl

full_range_is : full_range_format (codes "YUVJ444P") ≡ Some (Planar Yuv444)
full_range_is = refl

limited_range_is : full_range_format (codes "yuv444p") ≡ None
limited_range_is = refl
