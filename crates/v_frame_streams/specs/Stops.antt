-- The position, the reason and the system error in an error of a call on streams.
use Rattle.std.specs.Prelude.{ℕ, ◌≡◌, ◌⊎◌, List, Option}
use Rattle.v_frame_y4m.specs.Color.{depth_of}
use Rattle.v_frame_y4m.specs.Frames.{pixel_bytes}
use Rattle.v_frame_y4m.specs.declared.header.StreamHeader.{StreamHeader}
use Rattle.v_frame_streams.specs.Errors.{cause_of, RefusesPicture, StopsFrame, Unread}
use Rattle.v_frame_streams.specs.Formats.{RefusesFormats}
use Rattle.v_frame_streams.specs.Sources.{stream_of, unread_of, Stream}
use Rattle.v_frame_streams.specs.declared.error.Problem.{Problem}
use Rattle.v_frame_streams.specs.declared.error.StreamError.{StreamError}
use Rattle.v_frame_streams.specs.declared.sink.Sink.{Sink}
use Rattle.v_frame_streams.specs.declared.source.Source.{Source}
use Rattle.v_frame_streams.specs.declared.stream.Place.TheVariants.{Output}

-- The error is at the next frame of this stream. For a failed read, its cause is the last failure
-- of the reader.
pub record IsAtNextFrame {R : Type 0} (source : Source R) (error : StreamError) : Type 0 where
  pub place : error.place ≡ source.place
  pub frames : error.frames ≡ source.frames
  pub cause : error.cause ≡ cause_of error.problem source.reader.last_failure

-- The error is at the next frame of the output. For a failed write, its cause is the last failure
-- of the writer.
pub record IsAtNextWritten {W : Type 0} (sink : Sink W) (error : StreamError) : Type 0 where
  pub place : error.place ≡ Output
  pub frames : error.frames ≡ sink.frames
  pub cause : error.cause ≡ cause_of error.problem sink.writer.last_failure

-- A copy failed at the next frame of the source or of the output.
abbrev pub StopsCopy : {R W : Type 0} → Source R → Sink W → StreamError → Type 0
StopsCopy source sink error = IsAtNextFrame source error ⊎ IsAtNextWritten sink error

-- A comparison failed at the next frame of the first or the second stream.
abbrev pub StopsComparison : {R S : Type 0} → Source R → Source S → StreamError → Type 0
StopsComparison first second error = IsAtNextFrame first error ⊎ IsAtNextFrame second error

-- A frame of the stream could not be read, from some position on. `left` is what was left of the
-- stream afterwards.
abbrev pub FailsAtFrame : Stream → Unread → Problem → Type 0
FailsAtFrame stream left problem =
    (mid : Unread) × StopsFrame stream.container mid left stream.frame_len problem

-- The reason why no picture for the frames of a stream is allocated, if a pixel has `bytes` bytes.
abbrev pub RefusesPictureOf : ℕ → ℕ → StreamHeader → Problem → Type 0
RefusesPictureOf most bytes header =
    RefusesPicture most bytes header.width header.height header.color

module _ {R S : Type 0} (remaining : R → Option (List ℕ)) (also : S → Option (List ℕ))
    (first : Source R) (second : Source S) where
  -- A frame of one of two streams could not be read.
  abbrev pub FailsAtEither : Problem → Type 0
  FailsAtEither problem =
      FailsAtFrame (stream_of first) (unread_of remaining first) problem
      ⊎ FailsAtFrame (stream_of second) (unread_of also second) problem

  -- Two streams of one format could not be compared: no picture was allocated for one of them, or a
  -- frame could not be read. A pixel has `bytes` bytes.
  abbrev pub FailsToCompareAs : ℕ → ℕ → Problem → Type 0
  FailsToCompareAs most bytes problem =
      (RefusesPictureOf most bytes first.header problem
      ⊎ RefusesPictureOf most bytes second.header problem)
      ⊎ FailsAtEither problem

  -- The reason why two streams could not be compared.
  abbrev pub FailsToCompare : ℕ → Problem → Type 0
  FailsToCompare most problem =
      RefusesFormats first.header second.header problem
      ⊎ FailsToCompareAs most (pixel_bytes (depth_of first.header.color)) problem
