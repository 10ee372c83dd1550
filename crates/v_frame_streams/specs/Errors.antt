-- The errors of opening and reading a stream, the request for a picture of it, and the system
-- errors behind them.
use Rattle.std.specs.Prelude.{ℕ, ◌≡◌, ◌+◌, ◌*◌, ◌≤◌, ◌<◌, ◌⊎◌, Bool, List, [], ◌∷◌, ◌++◌, length, min, IsSome, Option, None}
use Rattle.std.specs.Io.KnownBytes.{Consumes, IsAtEnd}
use Rattle.std.specs.declared.io.ErrorKind.{ErrorKind}
use Rattle.v_frame.specs.Prelude.{usize_max, FrameRequest}
use Rattle.v_frame_planar.specs.Video.{video_refusal_of, video_request}
use Rattle.v_frame_planar.specs.declared.error.PlanarError.TheVariants.{Read, Truncated, Write}
use Rattle.v_frame_planar.specs.declared.error.PlanarError.TheVariants.{OutOfMemory as NoMemory}
use Rattle.v_frame_planar.specs.Counted.{HasFailed, Watched}
use Rattle.v_frame_planar.specs.Planar.{MayStopWriting}
use Rattle.v_frame_y4m.specs.Ascii.{line_feed}
use Rattle.v_frame_y4m.specs.Color.{depth_of, subsampling_of}
use Rattle.v_frame_y4m.specs.Faults.{IsRefusedFor}
use Rattle.v_frame_y4m.specs.Frames.{frame_byte_count}
use Rattle.v_frame_y4m.specs.Lax.{strict_line, IsLaxFrameLine}
use Rattle.v_frame_y4m.specs.Streams.{max_line_bytes, IsLine}
use Rattle.v_frame_y4m.specs.declared.color.Color.{Color}
use Rattle.v_frame_y4m.specs.declared.error.Y4mError.{Y4mError}
use Rattle.v_frame_y4m.specs.declared.error.Y4mError.TheVariants.{Header, LineTooLong, NoFrame, Planar, UnfinishedLine}
use Rattle.v_frame_y4m.specs.declared.header.StreamHeader.{StreamHeader}
use Rattle.v_frame_streams.specs.declared.error.Problem.{Problem}
use Rattle.v_frame_streams.specs.declared.error.Problem.TheVariants.{OutOfMemory, Stream, TooLarge, TooManyPixels}
use Rattle.v_frame_streams.specs.declared.error.StreamError.{StreamError}
use Rattle.v_frame_streams.specs.declared.stream.Place.{Place}
use Rattle.v_frame_streams.specs.Streams.{framed_bytes, header_bytes, most_frames, Framed, HasLine, ReadsFrames, ReadsHeaderLine}
use Rattle.v_frame_streams.specs.declared.stream.Container.{Container}
use Rattle.v_frame_streams.specs.declared.stream.Container.TheVariants.{Raw, Y4m}

-- The last error that the system reported, if the problem is a failed read or write.
abbrev pub cause_of : Problem → Option ErrorKind → Option ErrorKind
cause_of (Stream (Planar Read)) last = last
cause_of (Stream (Planar Write)) last = last
cause_of _ last = None

-- A failed read or write has a system error as its cause. No other problem has a cause.
abbrev pub HasCause : Problem → Option ErrorKind → Type 0
HasCause (Stream (Planar Read)) cause = IsSome cause
HasCause (Stream (Planar Write)) cause = IsSome cause
HasCause _ cause = cause ≡ None

-- The error is at the first frame of a stream. It has no system error behind it, unless a read
-- failed.
pub record IsAtStart (which : Place) (error : StreamError) : Type 0 where
  pub place : error.place ≡ which
  pub frames : error.frames ≡ 0
  pub cause : HasCause error.problem error.cause

-- The request to a frame builder for a picture of this size and color.
abbrev pub picture_request : ℕ → ℕ → Color → FrameRequest
picture_request width height color =
    video_request width height (subsampling_of color) (depth_of color) 0

-- The reason why no picture of this size and color is allocated. `most` is the largest number of luma
-- pixels, and a pixel has `bytes` bytes. A picture above the limit is rejected for this reason first.
abbrev pub RefusesPicture : ℕ → ℕ → ℕ → ℕ → Color → Problem → Type 0
RefusesPicture most bytes width height color (TooManyPixels limit) =
    (limit ≡ most) × (most < width * height)
RefusesPicture most bytes width height color TooLarge =
    (width * height ≤ most)
    × IsSome (video_refusal_of bytes (picture_request width height color))
RefusesPicture most bytes width height color OutOfMemory = width * height ≤ most
RefusesPicture most bytes width height color _ = ⊥

-- A frame has at least one byte, and no more than `usize` can count.
pub record HasLength (header : StreamHeader) : Type 0 where
  pub some : 0 < frame_byte_count header
  pub most : frame_byte_count header ≤ usize_max

module _ (start left : Option (List ℕ)) where
  -- The header line, strict or lax, could not be read. `start` are the bytes of the stream.
  abbrev pub StopsInHeaderLine : Y4mError → Type 0
  StopsInHeaderLine (Header error) =
      (line : List ℕ) × IsRefusedFor (strict_line line) error × IsLine line
      × (length line ≤ max_line_bytes) × Consumes start left (line ++ line_feed ∷ [])
  StopsInHeaderLine LineTooLong =
      (bytes : List ℕ) × IsLine bytes × (length bytes ≡ max_line_bytes + 1)
      × Consumes start left bytes
  StopsInHeaderLine UnfinishedLine =
      (bytes : List ℕ) × IsLine bytes × (length bytes ≤ max_line_bytes)
      × Consumes start left bytes × IsAtEnd left
  StopsInHeaderLine NoFrame = ⊥
  StopsInHeaderLine (Planar error) =
      (error ≡ Read) × (bytes : List ℕ) × (length bytes ≤ max_line_bytes)
      × Consumes start left bytes

-- A stream that begins with the bytes `start` cannot be opened.
abbrev pub StopsOpening : Option (List ℕ) → Problem → Type 0
StopsOpening start (Stream error) =
    (left : Option (List ℕ)) × StopsInHeaderLine start left error
StopsOpening start TooLarge =
    (left : Option (List ℕ)) × (header : StreamHeader) × (lax : Bool)
    × ReadsHeaderLine start left header lax × ¬ (HasLength header)
StopsOpening start OutOfMemory = Unit {0}
StopsOpening start _ = ⊥

-- The bytes of a stream that are still to be read, if they are known, and the number of reads that
-- have failed so far.
pub record Unread : Type 0 where
  pub bytes : Option (List ℕ)
  pub failures : ℕ

-- A read failed.
abbrev pub FailsToRead : Unread → Unread → Problem → Type 0
FailsToRead start left problem =
    (problem ≡ Stream (Planar Read)) × HasFailed start.failures left.failures

module _ {W : Type 0} (contents : W → Option (List ℕ)) (old new : Watched W) where
  -- These bytes could not be written: a write failed or accepted none of them, after a beginning of
  -- the bytes was written.
  abbrev pub FailsToWrite : List ℕ → Problem → Type 0
  FailsToWrite bytes (Stream (Planar error)) = MayStopWriting contents old new bytes error
  FailsToWrite bytes _ = ⊥

  -- The header could not be written: a write failed, or a memory allocation failed before anything
  -- was written. Raw video has no header line and allocates nothing.
  abbrev pub FailsToWriteHeader : Container → StreamHeader → Problem → Type 0
  FailsToWriteHeader to header problem =
      ((to ≡ Y4m) × (problem ≡ Stream (Planar NoMemory)) × (new ≡ old))
      ⊎ FailsToWrite (header_bytes to header) problem

-- Some bytes of a frame of `count` bytes could not be read, after the first `before`. Either the
-- stream ended inside the frame, and all bytes up to its end were read, or a read failed.
abbrev pub StopsInside : ℕ → Unread → Unread → ℕ → Problem → Type 0
StopsInside before start left count (Stream (Planar (Truncated expected found))) =
    (expected ≡ count) × (found < count) × (bytes : List ℕ) × (found ≡ before + length bytes)
    × Consumes start.bytes left.bytes bytes × IsAtEnd left.bytes
StopsInside before start left count problem = FailsToRead start left problem

-- A frame of `count` bytes could not be read: the line in front of it is wrong, or the stream ended
-- inside the frame after `found` bytes, or a read failed.
abbrev pub StopsFrame : Container → Unread → Unread → ℕ → Problem → Type 0
StopsFrame from start left count (Stream LineTooLong) =
    (from ≡ Y4m) × StopsInHeaderLine start.bytes left.bytes LineTooLong
StopsFrame from start left count (Stream UnfinishedLine) =
    (from ≡ Y4m)
    × (bytes : List ℕ) × IsLine bytes × (0 < length bytes) × (length bytes ≤ max_line_bytes)
    × Consumes start.bytes left.bytes bytes × IsAtEnd left.bytes
StopsFrame from start left count (Stream NoFrame) =
    (from ≡ Y4m)
    × (line : List ℕ) × ¬ (IsLaxFrameLine line) × IsLine line × (length line ≤ max_line_bytes)
    × Consumes start.bytes left.bytes (line ++ line_feed ∷ [])
StopsFrame from start left count (Stream (Planar (Truncated expected found))) =
    (expected ≡ count) × (found < count) × (from ≡ Raw → 0 < found)
    × (frame : Framed) × HasLine from frame.0 × (found ≡ length frame.1)
    × Consumes start.bytes left.bytes (framed_bytes from frame) × IsAtEnd left.bytes
StopsFrame from start left count problem = FailsToRead start left problem

-- Fewer than `most` frames were read whole and counted, without a failed read, and the next frame
-- could not be read. The counter goes from `before` to `after` and saturates.
pub record StopsAtFrame (from : Container) (count : ℕ) (start left : Unread)
    (most before after : ℕ) (problem : Problem) : Type 0 where
  pub frames : List Framed
  pub mid : Unread
  pub read : ReadsFrames start.bytes mid.bytes from count frames
  pub unfailed : mid.failures ≡ start.failures
  pub fewer : length frames < most
  pub counted : after ≡ min (before + length frames) most_frames
  pub stops : StopsFrame from mid left count problem
