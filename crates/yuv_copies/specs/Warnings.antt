-- The options of a copy, and its warnings.
use Rattle.std.specs.Prelude.{ℕ, ◌-◌, ◌&&◌, not, if◌then◌else◌, nat_lt, Bool, true, false, Option, Some, None}
use Rattle.v_frame_formats.specs.Formats.{format_depth, format_subsampling}
use Rattle.v_frame_formats.specs.declared.format.VideoFormat.{VideoFormat}
use Rattle.v_frame_rgb.specs.declared.standard.ColorRange.{ColorRange}
use Rattle.v_frame_rgb.specs.declared.standard.ColorRange.TheVariants.{Full}
use Rattle.v_frame_streams.specs.Copies.{taken}
use Rattle.v_frame_streams.specs.declared.options.CopyOptions.{CopyOptions}
use Rattle.v_frame_y4m.specs.Color.{depth_of, subsampling_of}
use Rattle.v_frame_y4m.specs.declared.header.StreamHeader.{StreamHeader}
use Rattle.yuv_copies.specs.Fields.{halves_rows, has_all_rows, has_fields}
use Rattle.yuv_copies.specs.declared.copy.CopyWarning.{CopyWarning}
use Rattle.yuv_copies.specs.declared.copy.CopyWarning.TheVariants.{HalfBlendsFields, FormatBlendsFields, FormatShiftsFullRange}
use Rattle.yuv_pictures.specs.Prelude.{most_at}
use Rattle.yuv_system.specs.Headers.{declared_range}
use Rattle.yuv_system.specs.Options.{copy_of}
use Rattle.yuv_words.specs.declared.command.Options.{Options as OptionWords}

-- With `--salvage`, frames are cropped, so that complete frames are read before they are written.
-- The crop is the whole picture if no other one is requested.
abbrev pub copy_asked : OptionWords → StreamHeader → CopyOptions
copy_asked options header =
    if options.salvage then record (copy_of options) { crop = Some (taken (copy_of options) header) }
    else copy_of options

-- The format has fewer chroma rows than the stream.
abbrev pub blends_chroma : Option VideoFormat → StreamHeader → Bool
blends_chroma None header = false
blends_chroma (Some format) header =
    halves_rows (format_subsampling format) && has_all_rows (subsampling_of header.color)

abbrev pub field_warning : Bool → Option VideoFormat → StreamHeader → Option CopyWarning
field_warning half format header =
    if not (has_fields header.interlacing) then None
    else (if half then Some HalfBlendsFields
    else (if blends_chroma format header then Some FormatBlendsFields else None))

-- The value of white and the greatest value, after white of full range is shifted from one depth to
-- another.
abbrev pub shifted_white : ℕ → ℕ → CopyWarning
shifted_white from to =
    FormatShiftsFullRange (most_at to - most_at (to - from)) (most_at to)

abbrev pub is_full : Option ColorRange → Bool
is_full (Some Full) = true
is_full _ = false

abbrev pub range_warning : Option VideoFormat → StreamHeader → Option CopyWarning
range_warning None header = None
range_warning (Some format) header =
    if is_full (declared_range header.extensions)
    && nat_lt (depth_of header.color) (format_depth format)
    then Some (shifted_white (depth_of header.color) (format_depth format)) else None
