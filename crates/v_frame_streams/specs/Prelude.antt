-- The definitions that the contracts of callers cite, re-exported from one place.
pub use Rattle.v_frame_planar.specs.Shown.{table_in, tables_in}
pub use Rattle.v_frame_streams.specs.Breaks.{counts_of, BreaksCopy}
pub use Rattle.v_frame_streams.specs.Comparisons.{errors_between, errors_of_all, shown, Compares, ComparesFrames, ComparesFrom}
pub use Rattle.v_frame_streams.specs.Comparisons.{DiffersAfter, IsDifference, TakesEach, Watches, WatchesFrom}
pub use Rattle.v_frame_streams.specs.Conversions.{color_in, form_of, format_in, format_of, in_format, is_same_format}
pub use Rattle.v_frame_streams.specs.Conversions.{is_same_color, layout_to, Format}
pub use Rattle.v_frame_streams.specs.Layouts.{is_same_layout, HoldsColor}
pub use Rattle.v_frame_streams.specs.Copies.{copied_bytes, copied_header, edit_of, is_plain, kept, limit_of, made_stream}
pub use Rattle.v_frame_streams.specs.Copies.{copied_extensions, plan_for, taken, without_format}
pub use Rattle.v_frame_streams.specs.Copies.{CanCopy, Copies, CopiesBy, RefusesCopy}
pub use Rattle.v_frame_streams.specs.Crops.{cropped, cut, HasPart, IsUnpadded, IsPart, IsTakable, RefusesCrop, RefusesFrame, RefusesPart}
pub use Rattle.v_frame_streams.specs.Edits.{beside, edited, edited_table, halved_size, halved_table, EditFits}
pub use Rattle.v_frame_streams.specs.Errors.{cause_of, picture_request, FailsToRead, FailsToWrite, FailsToWriteHeader, HasCause, HasLength, IsAtStart, RefusesPicture, StopsAtFrame, StopsFrame, StopsInside, StopsOpening, Unread}
pub use Rattle.v_frame_streams.specs.Formats.{HaveOneFormat, HaveOneSize, RefusesFormats}
pub use Rattle.v_frame_streams.specs.Pictures.{sizes_in, tables_by_turns, tables_in_layout}
pub use Rattle.v_frame_streams.specs.MadeFor.{IsMadeFor}
pub use Rattle.v_frame_streams.specs.Nth.{EndsBefore, ReadsBehind, ReadsNth}
pub use Rattle.v_frame_streams.specs.Pictures.{tables_of_bytes, ReadsTables, Sizes}
pub use Rattle.v_frame_streams.specs.Plans.{planned_bytes, Plan}
pub use Rattle.v_frame_streams.specs.Sources.{bytes_left, stream_of, unread_of, IsOpened, Stream}
pub use Rattle.v_frame_streams.specs.Stops.{FailsAtFrame, FailsToCompare, IsAtNextFrame, IsAtNextWritten, RefusesPictureOf, StopsComparison, StopsCopy}
pub use Rattle.v_frame_streams.specs.Streams.{framed_bytes, header_bytes, most_frames, stream_bytes, written_bytes, Framed}
pub use Rattle.v_frame_streams.specs.Streams.{CountsFrames, IsFrame, ReadsFrames, ReadsHeaderLine}
pub use Rattle.v_frame_streams.specs.Telling.{TellsUpTo}
