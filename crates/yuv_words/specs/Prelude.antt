-- The definitions that contracts of other crates use, re-exported from one module.
pub use Rattle.yuv_words.specs.Calls.{IsCall, IsWrittenAs}
pub use Rattle.yuv_words.specs.Commands.{Says, SaysValue}
pub use Rattle.yuv_words.specs.Faults.{HasFault, IsRefusedFor}
pub use Rattle.v_frame_formats.specs.Formats.{ffmpeg_name, format_color, format_depth, format_subsampling, short_name, IsFormat}
pub use Rattle.yuv_words.specs.Names.{command_text, option_text, options_of, takes_value}
pub use Rattle.yuv_words.specs.Values.{IsNumber, IsRatio, IsRaw, IsRectangle}
pub use Rattle.yuv_words.specs.Words.{texts_of, Token}
