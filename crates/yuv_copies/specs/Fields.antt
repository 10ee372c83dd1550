-- Frames that consist of two fields.
use Rattle.std.specs.Prelude.{◌≡◌, ◌*◌, ◌%◌, Bool, true, false, Option, Some, None, IfSome}
use Rattle.v_frame.specs.Prelude.{ChromaSubsampling, Yuv411, Yuv420, Yuv422, Yuv444}
use Rattle.v_frame_formats.specs.declared.rectangle.Rectangle.{Rectangle}
use Rattle.v_frame_planar.specs.Video.{ratio_or_one}
use Rattle.v_frame_y4m.specs.Color.{subsampling_of}
use Rattle.v_frame_y4m.specs.declared.header.Interlacing.{Interlacing}
use Rattle.v_frame_y4m.specs.declared.header.Interlacing.TheVariants.{Progressive, TopFirst, BottomFirst, Mixed, Unknown}
use Rattle.v_frame_y4m.specs.declared.header.StreamHeader.{StreamHeader}

-- Whether frames consist of two fields, which were recorded at different times, or may do so.
abbrev pub has_fields : Option Interlacing → Bool
has_fields None = false
has_fields (Some Progressive) = false
has_fields (Some TopFirst) = true
has_fields (Some BottomFirst) = true
has_fields (Some Mixed) = true
has_fields (Some Unknown) = false

-- Whether chroma of this subsampling has one row for two rows of luma.
abbrev pub halves_rows : ChromaSubsampling → Bool
halves_rows Yuv420 = true
halves_rows _ = false

abbrev pub has_all_rows : ChromaSubsampling → Bool
has_all_rows Yuv422 = true
has_all_rows Yuv411 = true
has_all_rows Yuv444 = true
has_all_rows _ = false

-- If frames have fields, the crop begins at a row of the first field, in luma and in chroma.
abbrev pub KeepsFields : Option Rectangle → StreamHeader → Type 0
KeepsFields crop header =
    IfSome crop (λ part. has_fields header.interlacing ≡ true
    → part.y % ((ratio_or_one (subsampling_of header.color)).1 * 2) ≡ 0)
