-- The formats of raw video and their names.
use Rattle.std.specs.Prelude.{ℕ, ◌≡◌, ◌++◌, ◌⊎◌, ⊤, IsTrue, List, [], codes, if◌then◌else◌, None, Option, Some}
use Rattle.std.specs.Str.{str_eq_ignore_ascii_case}
use Rattle.v_frame.specs.Prelude.{ChromaSubsampling}
use Rattle.v_frame_y4m.specs.Color.{color_text, depth_of, depth_text, stated, subsampling_of}
use Rattle.v_frame_y4m.specs.declared.color.Color.{Color}
use Rattle.v_frame_y4m.specs.declared.color.Color.TheVariants.{Unstated, Yuv420, Yuv420Jpeg, Yuv420Mpeg2}
use Rattle.v_frame_y4m.specs.declared.color.Color.TheVariants.{Yuv420Paldv, Yuv411, Yuv422, Yuv444, Mono}
use Rattle.v_frame_y4m.specs.declared.color.Color.TheVariants.{Yuv420HighDepth, Yuv422HighDepth}
use Rattle.v_frame_y4m.specs.declared.color.Color.TheVariants.{Yuv444HighDepth, MonoHighDepth}
use Rattle.v_frame_y4m.specs.declared.color.Depth.TheVariants.{Ten, Twelve, Sixteen}
use Rattle.v_frame_semi_planar.specs.Format.{depth_of as sample_depth_of, subsampling_of as chroma_of}
use Rattle.v_frame_semi_planar.specs.declared.format.SemiPlanarFormat.{SemiPlanarFormat}
use Rattle.v_frame_semi_planar.specs.declared.format.SemiPlanarFormat.TheVariants.{Nv12, Nv21, Nv16, Nv24}
use Rattle.v_frame_semi_planar.specs.declared.format.SemiPlanarFormat.TheVariants.{P010, P012, P016}
use Rattle.v_frame_formats.specs.declared.format.VideoFormat.{VideoFormat}
use Rattle.v_frame_formats.specs.declared.format.VideoFormat.TheVariants.{Planar, SemiPlanar}

abbrev pub format_subsampling : VideoFormat → ChromaSubsampling
format_subsampling (Planar color) = subsampling_of color
format_subsampling (SemiPlanar layout) = chroma_of layout

abbrev pub format_depth : VideoFormat → ℕ
format_depth (Planar color) = depth_of color
format_depth (SemiPlanar layout) = sample_depth_of layout

-- The color that a header states for the subsampling and the bit depth of an interleaved layout.
abbrev pub color_of_layout : SemiPlanarFormat → Color
color_of_layout Nv12 = Yuv420
color_of_layout Nv21 = Yuv420
color_of_layout Nv16 = Yuv422
color_of_layout Nv24 = Yuv444
color_of_layout P010 = Yuv420HighDepth Ten
color_of_layout P012 = Yuv420HighDepth Twelve
color_of_layout P016 = Yuv420HighDepth Sixteen

abbrev pub format_color : VideoFormat → Color
format_color (Planar color) = color
format_color (SemiPlanar layout) = color_of_layout layout

-- The short name of an interleaved layout. For planar formats, the short name is the one that
-- YUV4MPEG2 uses.
abbrev pub layout_text : SemiPlanarFormat → List ℕ
layout_text Nv12 = codes "nv12"
layout_text Nv21 = codes "nv21"
layout_text Nv16 = codes "nv16"
layout_text Nv24 = codes "nv24"
layout_text P010 = codes "p010"
layout_text P012 = codes "p012"
layout_text P016 = codes "p016"

abbrev pub short_name : VideoFormat → List ℕ
short_name (Planar color) = color_text color
short_name (SemiPlanar layout) = layout_text layout

-- The name of ffmpeg's pixel format, or the short name if no pixel format of ffmpeg has exactly
-- this meaning.
abbrev pub ffmpeg_color : Color → List ℕ
ffmpeg_color Unstated = []
ffmpeg_color Yuv420 = codes "420"
ffmpeg_color Yuv420Jpeg = codes "yuv420p"
ffmpeg_color Yuv420Mpeg2 = codes "420mpeg2"
ffmpeg_color Yuv420Paldv = codes "420paldv"
ffmpeg_color Yuv411 = codes "yuv411p"
ffmpeg_color Yuv422 = codes "yuv422p"
ffmpeg_color Yuv444 = codes "yuv444p"
ffmpeg_color Mono = codes "gray"
ffmpeg_color (Yuv420HighDepth depth) = codes "yuv420p" ++ (depth_text depth ++ codes "le")
ffmpeg_color (Yuv422HighDepth depth) = codes "yuv422p" ++ (depth_text depth ++ codes "le")
ffmpeg_color (Yuv444HighDepth depth) = codes "yuv444p" ++ (depth_text depth ++ codes "le")
ffmpeg_color (MonoHighDepth depth) = codes "gray" ++ (depth_text depth ++ codes "le")

abbrev pub ffmpeg_layout : SemiPlanarFormat → List ℕ
ffmpeg_layout Nv12 = codes "nv12"
ffmpeg_layout Nv21 = codes "nv21"
ffmpeg_layout Nv16 = codes "nv16"
ffmpeg_layout Nv24 = codes "nv24"
ffmpeg_layout P010 = codes "p010le"
ffmpeg_layout P012 = codes "p012le"
ffmpeg_layout P016 = codes "p016le"

abbrev pub ffmpeg_name : VideoFormat → List ℕ
ffmpeg_name (Planar color) = ffmpeg_color color
ffmpeg_name (SemiPlanar layout) = ffmpeg_layout layout

-- The name that people usually type, in lower case: the name of ffmpeg without its `le`, or one
-- such as i420. Other formats have the short name.
abbrev pub common_color : Color → List ℕ
common_color Unstated = []
common_color Yuv420 = codes "420"
common_color Yuv420Jpeg = codes "i420"
common_color Yuv420Mpeg2 = codes "420mpeg2"
common_color Yuv420Paldv = codes "420paldv"
common_color Yuv411 = codes "411"
common_color Yuv422 = codes "i422"
common_color Yuv444 = codes "i444"
common_color Mono = codes "gray8"
common_color (Yuv420HighDepth depth) = codes "yuv420p" ++ depth_text depth
common_color (Yuv422HighDepth depth) = codes "yuv422p" ++ depth_text depth
common_color (Yuv444HighDepth depth) = codes "yuv444p" ++ depth_text depth
common_color (MonoHighDepth depth) = codes "gray" ++ depth_text depth

abbrev pub common_name : VideoFormat → List ℕ
common_name (Planar color) = common_color color
common_name (SemiPlanar layout) = layout_text layout

-- The format has names. All formats do, except for the color of a header that states none.
abbrev pub IsNamed : VideoFormat → Type 0
IsNamed (Planar color) = stated color ≡ Some color
IsNamed (SemiPlanar layout) = ⊤

-- The two names are equal, except for the case of letters.
abbrev pub IsSameName : List ℕ → List ℕ → Type 0
IsSameName one other = IsTrue (str_eq_ignore_ascii_case one other)

-- The text is one of the three names of the format.
abbrev pub IsNameOf : VideoFormat → List ℕ → Type 0
IsNameOf format text =
    IsSameName text (short_name format)
    ⊎ (IsSameName text (ffmpeg_name format) ⊎ IsSameName text (common_name format))

abbrev pub IsFormat : VideoFormat → List ℕ → Type 0
IsFormat format text = IsNamed format × IsNameOf format text

-- The format with full range that has this name in ffmpeg.
abbrev pub full_range_format : List ℕ → Option VideoFormat
full_range_format text =
    if str_eq_ignore_ascii_case text (codes "yuvj420p") then Some (Planar Yuv420Jpeg)
    else (if str_eq_ignore_ascii_case text (codes "yuvj422p") then Some (Planar Yuv422)
    else (if str_eq_ignore_ascii_case text (codes "yuvj444p") then Some (Planar Yuv444)
    else None))
