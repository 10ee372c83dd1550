-- The definitions and types that the clauses of callers use, re-exported from one place. A variant
-- is written after its type (`Answer.Number 3`), and is not imported from here.
pub use Rattle.v_frame_raster.specs.Pixel.{PixelForm, one_byte, two_bytes, bytes_of, byte_of, value_of_bytes}
pub use Rattle.v_frame_raster.specs.Pixel.{bytes_of_pixels, byte_list, pixels_of_bytes}
pub use Rattle.v_frame_raster.specs.PixelRows.{squared_error, rounded_mean, absolute_differences, squared_errors}
pub use Rattle.v_frame_raster.specs.PixelRows.{halved}
pub use Rattle.v_frame_raster.specs.Laws.{AddsUp, AgreesBelow, WrittenBelow}
pub use Rattle.v_frame_raster.specs.Chroma.{ratio_of, chroma_size_of, subsampled}
pub use Rattle.v_frame_raster.specs.Geometry.{Geometry, geometry_of, stride_of, alloc_height_of, alloc_size_of}
pub use Rattle.v_frame_raster.specs.Geometry.{IsGeometry, IsInside, IsInBuffer, Fits, place_of}
pub use Rattle.v_frame_raster.specs.Geometry.{buffer_column, buffer_row, buffer_region}
pub use Rattle.v_frame_raster.specs.Geometry.{origin_of, region_geometry, whole_geometry, usize_max, isize_max, Mark}
pub use Rattle.v_frame_raster.specs.Geometry.{Border, Visible, cutting_plan, mark_at}
pub use Rattle.v_frame_raster.specs.Table.{Table, width_of, height_of, pixel_at, rectangle, row_major, with_pixel}
pub use Rattle.v_frame_raster.specs.Table.{with_writes, with_item_by, overwritten_row, cut_rows}
pub use Rattle.v_frame_raster.specs.declared.chroma.ChromaSubsampling.{ChromaSubsampling}
pub use Rattle.v_frame_raster.specs.declared.chroma.ChromaSubsampling.TheVariants.{Yuv420, Yuv422, Yuv411, Yuv444}
pub use Rattle.v_frame_raster.specs.declared.chroma.ChromaSubsampling.TheVariants.{Monochrome}
pub use Rattle.v_frame_raster.specs.Raster.{Raster, raster, filled, table_of, border_of, whole_rows, with_entries}
pub use Rattle.v_frame_raster.specs.Raster.{KeepsBorder, border_and_geometry, IsWhole, IsFull, options_of}
pub use Rattle.v_frame_plane.specs.Copy.{CopyOutcome, Copies, packed_copy, strided_copy, packed_byte_copy}
pub use Rattle.v_frame_raster.specs.StridedRows.{piece_fronts, strided_table, strided_rows, KeepsRest, RowsFit}
pub use Rattle.v_frame_raster.specs.StridedRows.{IsInsideTable}
pub use Rattle.v_frame_raster.specs.RasterLaws.{HasMarks, HasPlaces, HoldsPixels, HoldsRows, ShowsRectangle, AgreeAt}
pub use Rattle.v_frame_raster.specs.RasterLaws.{IsMadeOfEntries}
pub use Rattle.v_frame_plane.specs.RowsLeft.{rows_left}
pub use Rattle.v_frame_plane.specs.PixelsLeft.{pixels_left}
pub use Rattle.v_frame_plane.specs.declared.error.CopyError.{CopyError}
pub use Rattle.v_frame_plane.specs.declared.error.CopyError.TheVariants.{DataLength, InvalidStride}
pub use Rattle.v_frame.specs.Frame.{Tables, tables_of, table_at, with_table, plane_at, KeepsBorders}
pub use Rattle.v_frame.specs.Build.{FrameRequest, refusal_of, IsBlank, IsZeroEverywhere}
pub use Rattle.v_frame.specs.Walk.{draws_answer, drawn_in_turn, remaining_in_turn, front_draw, rows_written}
pub use Rattle.v_frame.specs.Walk.{pixels_written}
pub use Rattle.v_frame.specs.Replay.{answers_to, tables_after, reply_to, StoppedAfter}
-- Definitions for hand-written proofs of callers that keep rows and pixels: the final state of the
-- plane, the effects of `next` and `next_back`, and the effect of dropping an iterator.
pub use Rattle.v_frame_plane.specs.LendsTable.{EndsWith, LendsRows, LendsTable, LendsPixelTable}
pub use Rattle.v_frame_plane.specs.LendsTable.{HeldRowsAreTheTable}
pub use Rattle.v_frame_raster.specs.Writes.{WritesTable}
pub use Rattle.v_frame_plane.specs.FinalRows.{EndsAs, FinalRows, KeepsRows, TakesFirstRow, TakesLastRow, LendsFirstRow}
pub use Rattle.v_frame_plane.specs.FinalRows.{LendsLastRow, WritesEachTable}
pub use Rattle.v_frame_plane.specs.FinalPixels.{PixelEndsAs, FinalPixels, KeepsPixels}
pub use Rattle.v_frame_plane.specs.FinalPixels.{TakesFirstPixel, TakesLastPixel, LendsFirstPixel}
pub use Rattle.v_frame_plane.specs.FinalPixels.{LendsLastPixel}
pub use Rattle.v_frame_plane.specs.Dropped.{DroppedRowsKeepTheirPixels, DroppedPixelsKeepTheirValues, RowsAreHeld}
pub use Rattle.v_frame_plane.specs.declared.rows_mut.RowsMut.{RowsMut}
pub use Rattle.v_frame_plane.specs.declared.pixels_mut.PixelsMut.{PixelsMut}
use Rattle.v_frame.specs.declared.frame.Frame.{Frame as TheFrame}
use Rattle.v_frame.specs.declared.frame.error.FrameError.{FrameError as TheFrameError}
use Rattle.v_frame.specs.declared.replay.call.VisibleCall.{VisibleCall as TheVisibleCall}
use Rattle.v_frame.specs.declared.replay.answer.Answer.{Answer as TheAnswer}
use Rattle.v_frame.specs.declared.replay.draw.Side.{Side as TheSide}
use Rattle.v_frame.specs.declared.replay.draw.RowDraw.{RowDraw as TheRowDraw}
use Rattle.v_frame.specs.declared.replay.draw.PixelDraw.{PixelDraw as ThePixelDraw}
use Rattle.v_frame.specs.declared.replay.draw.Drawn.{Drawn as TheDrawn}

-- The types of this crate.
abbrev pub Frame : Type 0 → Type 0
Frame = TheFrame

abbrev pub FrameError : Type 0
FrameError = TheFrameError

abbrev pub VisibleCall : Type 0 → Type 0
VisibleCall = TheVisibleCall

abbrev pub Answer : Type 0 → Type 0
Answer = TheAnswer

abbrev pub Side : Type 0
Side = TheSide

abbrev pub RowDraw : Type 0 → Type 0
RowDraw = TheRowDraw

abbrev pub PixelDraw : Type 0 → Type 0
PixelDraw = ThePixelDraw

abbrev pub Drawn : Type 0 → Type 0
Drawn = TheDrawn
