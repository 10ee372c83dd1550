-- The properties of a color, and its spelling.
use Rattle.std.specs.Prelude.{ℕ, List, [], ◌++◌, ◌==◌, codes, if◌then◌else◌, Option, Some, None}
use Rattle.v_frame.specs.Prelude.{ChromaSubsampling, Yuv420 as Half, Yuv422 as Wide, Yuv411 as Quarter, Yuv444 as Full}
use Rattle.v_frame.specs.Prelude.{Monochrome}
use Rattle.v_frame_y4m.specs.declared.color.Depth.{Depth}
use Rattle.v_frame_y4m.specs.declared.color.Depth.TheVariants.{Nine, Ten, Twelve, Fourteen, Sixteen}
use Rattle.v_frame_y4m.specs.declared.color.ChromaSiting.{ChromaSiting}
use Rattle.v_frame_y4m.specs.declared.color.ChromaSiting.TheVariants.{Center, Left, Alternating}
use Rattle.v_frame_y4m.specs.declared.color.Color.{Color}
use Rattle.v_frame_y4m.specs.declared.color.Color.TheVariants.{Unstated, Yuv420, Yuv420Jpeg, Yuv420Mpeg2, Yuv420Paldv}
use Rattle.v_frame_y4m.specs.declared.color.Color.TheVariants.{Yuv411, Yuv422, Yuv444, Mono, Yuv420HighDepth}
use Rattle.v_frame_y4m.specs.declared.color.Color.TheVariants.{Yuv422HighDepth, Yuv444HighDepth, MonoHighDepth}

abbrev pub bits_of : Depth → ℕ
bits_of Nine = 9
bits_of Ten = 10
bits_of Twelve = 12
bits_of Fourteen = 14
bits_of Sixteen = 16

-- The decimal digits of a depth.
abbrev pub depth_text : Depth → List ℕ
depth_text Nine = codes "9"
depth_text Ten = codes "10"
depth_text Twelve = codes "12"
depth_text Fourteen = codes "14"
depth_text Sixteen = codes "16"

-- The text after the letter `C`.
abbrev pub color_text : Color → List ℕ
color_text Unstated = []
color_text Yuv420 = codes "420"
color_text Yuv420Jpeg = codes "420jpeg"
color_text Yuv420Mpeg2 = codes "420mpeg2"
color_text Yuv420Paldv = codes "420paldv"
color_text Yuv411 = codes "411"
color_text Yuv422 = codes "422"
color_text Yuv444 = codes "444"
color_text Mono = codes "mono"
color_text (Yuv420HighDepth depth) = codes "420p" ++ depth_text depth
color_text (Yuv422HighDepth depth) = codes "422p" ++ depth_text depth
color_text (Yuv444HighDepth depth) = codes "444p" ++ depth_text depth
color_text (MonoHighDepth depth) = codes "mono" ++ depth_text depth

abbrev pub subsampling_of : Color → ChromaSubsampling
subsampling_of Unstated = Half
subsampling_of Yuv420 = Half
subsampling_of Yuv420Jpeg = Half
subsampling_of Yuv420Mpeg2 = Half
subsampling_of Yuv420Paldv = Half
subsampling_of Yuv411 = Quarter
subsampling_of Yuv422 = Wide
subsampling_of Yuv444 = Full
subsampling_of Mono = Monochrome
subsampling_of (Yuv420HighDepth depth) = Half
subsampling_of (Yuv422HighDepth depth) = Wide
subsampling_of (Yuv444HighDepth depth) = Full
subsampling_of (MonoHighDepth depth) = Monochrome

abbrev pub depth_of : Color → ℕ
depth_of Unstated = 8
depth_of Yuv420 = 8
depth_of Yuv420Jpeg = 8
depth_of Yuv420Mpeg2 = 8
depth_of Yuv420Paldv = 8
depth_of Yuv411 = 8
depth_of Yuv422 = 8
depth_of Yuv444 = 8
depth_of Mono = 8
depth_of (Yuv420HighDepth depth) = bits_of depth
depth_of (Yuv422HighDepth depth) = bits_of depth
depth_of (Yuv444HighDepth depth) = bits_of depth
depth_of (MonoHighDepth depth) = bits_of depth

abbrev pub siting_of : Color → Option ChromaSiting
siting_of Unstated = Some Center
siting_of Yuv420 = Some Center
siting_of Yuv420Jpeg = Some Center
siting_of Yuv420Mpeg2 = Some Left
siting_of Yuv420Paldv = Some Alternating
siting_of Yuv411 = None
siting_of Yuv422 = None
siting_of Yuv444 = None
siting_of Mono = None
siting_of (Yuv420HighDepth depth) = None
siting_of (Yuv422HighDepth depth) = None
siting_of (Yuv444HighDepth depth) = None
siting_of (MonoHighDepth depth) = None

-- The color, if a parameter states it.
abbrev pub stated : Color → Option Color
stated Unstated = None
stated Yuv420 = Some Yuv420
stated Yuv420Jpeg = Some Yuv420Jpeg
stated Yuv420Mpeg2 = Some Yuv420Mpeg2
stated Yuv420Paldv = Some Yuv420Paldv
stated Yuv411 = Some Yuv411
stated Yuv422 = Some Yuv422
stated Yuv444 = Some Yuv444
stated Mono = Some Mono
stated (Yuv420HighDepth depth) = Some (Yuv420HighDepth depth)
stated (Yuv422HighDepth depth) = Some (Yuv422HighDepth depth)
stated (Yuv444HighDepth depth) = Some (Yuv444HighDepth depth)
stated (MonoHighDepth depth) = Some (MonoHighDepth depth)

-- The depth of this number of bits, above 8.
abbrev pub depth_of_bits : ℕ → Option Depth
depth_of_bits bits =
    if bits == 9 then Some Nine
    else (if bits == 10 then Some Ten
    else (if bits == 12 then Some Twelve
    else (if bits == 14 then Some Fourteen
    else (if bits == 16 then Some Sixteen else None))))

-- The 8-bit color with this subsampling and this siting. Of the three with centered chroma, it is
-- `420jpeg`, which ffmpeg writes.
abbrev pub eight_bit_color : ChromaSubsampling → Option ChromaSiting → Option Color
eight_bit_color Half (Some Center) = Some Yuv420Jpeg
eight_bit_color Half (Some Left) = Some Yuv420Mpeg2
eight_bit_color Half (Some Alternating) = Some Yuv420Paldv
eight_bit_color Half None = None
eight_bit_color Wide None = Some Yuv422
eight_bit_color Wide (Some siting) = None
eight_bit_color Quarter None = Some Yuv411
eight_bit_color Quarter (Some siting) = None
eight_bit_color Full None = Some Yuv444
eight_bit_color Full (Some siting) = None
eight_bit_color Monochrome None = Some Mono
eight_bit_color Monochrome (Some siting) = None

-- The color above 8 bits with this subsampling, this depth and this siting.
abbrev pub high_depth_color :
    ChromaSubsampling → Option Depth → Option ChromaSiting → Option Color
high_depth_color Half (Some depth) None = Some (Yuv420HighDepth depth)
high_depth_color Wide (Some depth) None = Some (Yuv422HighDepth depth)
high_depth_color Quarter (Some depth) None = None
high_depth_color Full (Some depth) None = Some (Yuv444HighDepth depth)
high_depth_color Monochrome (Some depth) None = Some (MonoHighDepth depth)
high_depth_color subsampling (Some depth) (Some siting) = None
high_depth_color subsampling None siting = None

-- The color with this subsampling, this number of bits and this siting, if there is one.
abbrev pub color_with : ChromaSubsampling → ℕ → Option ChromaSiting → Option Color
color_with subsampling bits siting =
    if bits == 8 then eight_bit_color subsampling siting
    else high_depth_color subsampling (depth_of_bits bits) siting
