-- The properties of a stream that `info` prints, one in each line.
use Rattle.std.specs.Prelude.{ℕ, ◌∷◌, ◌++◌, [], List, Option, Some, None, codes, decimal, flat_map, map}
use Rattle.v_frame.specs.Prelude.{ChromaSubsampling, Yuv420, Yuv422, Yuv411, Yuv444, Monochrome}
use Rattle.v_frame_y4m.specs.Ascii.{shown_byte}
use Rattle.v_frame_y4m.specs.Color.{depth_of, siting_of, subsampling_of}
use Rattle.v_frame_y4m.specs.declared.color.ChromaSiting.{ChromaSiting}
use Rattle.v_frame_y4m.specs.declared.color.ChromaSiting.TheVariants.{Center, Left, Alternating}
use Rattle.v_frame_y4m.specs.declared.header.Interlacing.{Interlacing}
use Rattle.v_frame_y4m.specs.declared.header.Interlacing.TheVariants.{Progressive, TopFirst, BottomFirst, Mixed, Unknown}
use Rattle.v_frame_y4m.specs.declared.header.StreamHeader.{StreamHeader}
use Rattle.v_frame_y4m.specs.declared.header.Ratio.{Ratio}

abbrev pub fact : List ℕ → List ℕ → List ℕ
fact name value = name ++ (codes ": " ++ (value ++ (10 ∷ [])))

abbrev pub chroma_text : ChromaSubsampling → List ℕ
chroma_text Yuv420 = codes "4:2:0"
chroma_text Yuv422 = codes "4:2:2"
chroma_text Yuv411 = codes "4:1:1"
chroma_text Yuv444 = codes "4:4:4"
chroma_text Monochrome = codes "monochrome"

abbrev pub siting_text : ChromaSiting → List ℕ
siting_text Center = codes "center"
siting_text Left = codes "left"
siting_text Alternating = codes "alternating, as in PAL DV"

abbrev pub siting_fact : Option ChromaSiting → List ℕ
siting_fact None = []
siting_fact (Some siting) = fact (codes "chroma siting") (siting_text siting)

abbrev pub interlacing_text : Interlacing → List ℕ
interlacing_text Progressive = codes "progressive"
interlacing_text TopFirst = codes "top field first"
interlacing_text BottomFirst = codes "bottom field first"
interlacing_text Mixed = codes "mixed"
interlacing_text Unknown = codes "unknown"

abbrev pub interlacing_fact : Option Interlacing → List ℕ
interlacing_fact None = []
interlacing_fact (Some interlacing) = fact (codes "interlacing") (interlacing_text interlacing)

abbrev pub ratio_fact : List ℕ → Option Ratio → List ℕ
ratio_fact name None = []
ratio_fact name (Some ratio) =
    fact name (decimal ratio.numerator ++ (codes ":" ++ decimal ratio.denominator))

-- The bytes of an extension, with `?` for each byte that is not printable ASCII.
abbrev pub extension_fact : List ℕ → List ℕ
extension_fact bytes = fact (codes "extension") (map shown_byte bytes)

abbrev pub format_facts : StreamHeader → List ℕ
format_facts header =
    fact (codes "size") (decimal header.width ++ (codes "x" ++ decimal header.height))
    ++ (fact (codes "format") (chroma_text (subsampling_of header.color))
    ++ fact (codes "bit depth") (decimal (depth_of header.color)))

-- The position of chroma samples, the frame rate, the interlacing and the pixel aspect ratio, each
-- if the header states it.
abbrev pub stated_facts : StreamHeader → List ℕ
stated_facts header =
    siting_fact (siting_of header.color)
    ++ (ratio_fact (codes "frame rate") header.frame_rate
    ++ (interlacing_fact header.interlacing
    ++ ratio_fact (codes "pixel aspect") header.pixel_aspect))

abbrev pub bytes_fact : List ℕ → ℕ → List ℕ
bytes_fact name count = fact name (decimal count ++ codes " bytes")

-- The length of the file, if it is known.
abbrev pub file_fact : Option ℕ → List ℕ
file_fact None = []
file_fact (Some len) = bytes_fact (codes "file size") len

abbrev pub stream_facts : StreamHeader → ℕ → Option ℕ → List ℕ
stream_facts header frame_len file_len =
    format_facts header
    ++ (stated_facts header
    ++ (flat_map extension_fact header.extensions
    ++ (bytes_fact (codes "frame size") frame_len ++ file_fact file_len)))
