-- Calls on visible pixels, executed on plain tables of rows. There are no paddings, borders or
-- buffers here.
use Rattle.std.specs.Prelude.{ℕ, ◌≡◌, ◌<◌, List, [], ◌∷◌, length, take, map, Option, Some, None, slice_get, Any}
use Rattle.v_frame_raster.specs.Table.{Table, width_of, height_of, pixel_at, row_major, with_writes, with_pixel}
use Rattle.v_frame_plane.specs.Copy.{CopyOutcome, packed_copy, strided_copy, packed_byte_copy}
use Rattle.v_frame_raster.specs.Pixel.{PixelForm, byte_list}
use Rattle.v_frame.specs.Walk.{draws_answer, side_of_row, side_of_pixel, rows_written, pixels_written}
use Rattle.v_frame.specs.Frame.{Tables, table_at, with_table}
use Rattle.v_frame.specs.declared.replay.call.VisibleCall.{VisibleCall}
use Rattle.v_frame.specs.declared.replay.call.VisibleCall.TheVariants.{Width, Height, Row, RowMut, Pixel, PixelMut}
use Rattle.v_frame.specs.declared.replay.call.VisibleCall.TheVariants.{CopyFromSlice, CopyFromU8Slice}
use Rattle.v_frame.specs.declared.replay.call.VisibleCall.TheVariants.{CopyFromU8SliceWithStride, Rows, Pixels}
use Rattle.v_frame.specs.declared.replay.call.VisibleCall.TheVariants.{ByteData, RowsMut, PixelsMut}
use Rattle.v_frame.specs.declared.replay.answer.Answer.{Answer}
use Rattle.v_frame.specs.declared.replay.answer.Answer.TheVariants.{NoPlane, OutsideRectangle, Number, RowShown}
use Rattle.v_frame.specs.declared.replay.answer.Answer.TheVariants.{PixelShown, Copied, RowsWalked}
use Rattle.v_frame.specs.declared.replay.answer.Answer.TheVariants.{PixelsWalked, BytesWalked}

-- The result of a call on one plane, and the table after the call.
pub record TableReply (T : Type 0) : Type 0 where
  pub answer : Answer T
  pub table : Table T

-- The result of a call on a frame, and the tables after the call.
pub record Reply (T : Type 0) : Type 0 where
  pub answer : Answer T
  pub tables : Tables T

module _ {T : Type 0} where
  -- The index of the plane that a call names.
  abbrev pub named_plane : VisibleCall T → ℕ
  named_plane (Width plane) = plane
  named_plane (Height plane) = plane
  named_plane (Row plane y) = plane
  named_plane (RowMut plane y writes) = plane
  named_plane (Pixel plane x y) = plane
  named_plane (PixelMut plane x y value) = plane
  named_plane (CopyFromSlice plane source) = plane
  named_plane (CopyFromU8Slice plane source) = plane
  named_plane (CopyFromU8SliceWithStride plane source stride) = plane
  named_plane (Rows plane draws) = plane
  named_plane (Pixels plane draws) = plane
  named_plane (ByteData plane draws) = plane
  named_plane (RowsMut plane draws) = plane
  named_plane (PixelsMut plane draws) = plane

  -- The index of the plane that a call may write.
  abbrev pub written_plane : VisibleCall T → Option ℕ
  written_plane (RowMut plane y writes) = Some plane
  written_plane (PixelMut plane x y value) = Some plane
  written_plane (CopyFromSlice plane source) = Some plane
  written_plane (CopyFromU8Slice plane source) = Some plane
  written_plane (CopyFromU8SliceWithStride plane source stride) = Some plane
  written_plane (RowsMut plane draws) = Some plane
  written_plane (PixelsMut plane draws) = Some plane
  written_plane call = None

  -- Some call of the list may write the plane with this index.
  abbrev pub WritesPlane : List (VisibleCall T) → ℕ → Type 0
  WritesPlane calls index = Any (λ call. written_plane call ≡ Some index) calls

  -- The result of a call on one pixel, which may lie outside the visible rectangle.
  abbrev pub answer_of_pixel : Option T → Answer T
  answer_of_pixel None = OutsideRectangle
  answer_of_pixel (Some pixel) = PixelShown pixel

  -- The result and the table of a copy.
  abbrev pub reply_of_copy : CopyOutcome T → TableReply T
  reply_of_copy copy = record { answer = Copied copy.answer; table = copy.table }

-- The results and the effects of calls, for a given byte encoding of pixels.
module _ {T : Type 0} (form : PixelForm T) where
  -- A call on the table of its plane.
  abbrev pub on_table : VisibleCall T → Table T → TableReply T
  on_table (Width plane) rows = record { answer = Number (width_of rows); table = rows }
  on_table (Height plane) rows = record { answer = Number (height_of rows); table = rows }
  on_table (Row plane y) rows = record { answer = RowShown (slice_get rows y); table = rows }
  on_table (RowMut plane y writes) rows =
      record { answer = RowShown (slice_get rows y); table = with_writes rows y writes }
  on_table (Pixel plane x y) rows =
      record { answer = answer_of_pixel (pixel_at rows x y); table = rows }
  on_table (PixelMut plane x y value) rows =
      record { answer = answer_of_pixel (pixel_at rows x y); table = with_pixel rows x y value }
  on_table (CopyFromSlice plane source) rows = reply_of_copy (packed_copy rows source)
  on_table (CopyFromU8Slice plane source) rows = reply_of_copy (packed_byte_copy form rows source)
  on_table (CopyFromU8SliceWithStride plane source stride) rows =
      reply_of_copy (strided_copy form rows source stride)
  on_table (Rows plane draws) rows =
      record { answer = RowsWalked (length rows) (draws_answer rows draws); table = rows }
  on_table (Pixels plane draws) rows =
      let pixels = row_major rows in
      record { answer = PixelsWalked (length pixels) (draws_answer pixels draws); table = rows }
  on_table (ByteData plane draws) rows =
      let bytes = byte_list form rows in
      record { answer = BytesWalked (length bytes) (draws_answer bytes draws); table = rows }
  on_table (RowsMut plane draws) rows =
      let drawn = draws_answer rows (map side_of_row draws) in
      record { answer = RowsWalked (length rows) drawn; table = rows_written rows draws }
  on_table (PixelsMut plane draws) rows =
      let pixels = row_major rows in
      let drawn = draws_answer pixels (map side_of_pixel draws) in
      record { answer = PixelsWalked (length pixels) drawn; table = pixels_written rows draws }

  -- A call on the tables of a frame. The third argument is the table of the plane that the call
  -- names, if there is one.
  abbrev pub on_tables : VisibleCall T → Tables T → Option (Table T) → Reply T
  on_tables call tables None = record { answer = NoPlane; tables = tables }
  on_tables call tables (Some rows) =
      let reply = on_table call rows in
      record { answer = reply.answer; tables = with_table tables (named_plane call) reply.table }

  -- The result of a call on a frame, and the tables after the call.
  abbrev pub reply_to : VisibleCall T → Tables T → Reply T
  reply_to call tables = on_tables call tables (table_at tables (named_plane call))

  -- The results of a list of calls that are executed in order.
  abbrev pub answers_to : List (VisibleCall T) → Tables T → List (Answer T)
  answers_to [] tables = []
  answers_to (call ∷ calls) tables =
      (reply_to call tables).answer ∷ answers_to calls (reply_to call tables).tables

  -- The tables after a list of calls that are executed in order.
  abbrev pub tables_after : List (VisibleCall T) → Tables T → Tables T
  tables_after [] tables = tables
  tables_after (call ∷ calls) tables = tables_after calls (reply_to call tables).tables

  -- A replay stopped before its end. The results are those of the calls that were executed, and the
  -- tables are those after these calls.
  pub record StoppedAfter (calls : List (VisibleCall T)) (old : Tables T)
      (done : List (Answer T)) (new : Tables T) : Type 0 where
    pub early : length done < length calls
    pub answers : done ≡ answers_to (take (length done) calls) old
    pub tables : new ≡ tables_after (take (length done) calls) old
