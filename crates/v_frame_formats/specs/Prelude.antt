-- The definitions that contracts of other crates use, re-exported from one module.
pub use Rattle.v_frame_formats.specs.Components.{index_of, letter_of}
pub use Rattle.v_frame_formats.specs.Formats.{color_of_layout, ffmpeg_name, format_color, format_depth}
pub use Rattle.v_frame_formats.specs.Formats.{common_name, format_subsampling, full_range_format, short_name}
pub use Rattle.v_frame_formats.specs.Formats.{IsFormat, IsNameOf, IsSameName}
pub use Rattle.v_frame_formats.specs.Sums.{added, added_chroma, at_most, multiplied}
