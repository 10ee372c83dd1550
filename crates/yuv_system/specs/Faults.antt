-- The files that errors concern, and the frames at which they occur.
use Rattle.std.specs.Prelude.{ℕ, ◌≡◌, ◌≢◌, ◌+◌, ⊤, Option, Some, None}
use Rattle.v_frame_streams.specs.Prelude.{EndsBefore, IsAtNextFrame, StopsAtFrame, Stream as TheStream, Unread}
use Rattle.v_frame_streams.specs.declared.source.Source.{Source}
use Rattle.v_frame_streams.specs.declared.error.Problem.{Problem}
use Rattle.v_frame_streams.specs.declared.error.StreamError.{StreamError}
use Rattle.v_frame_streams.specs.declared.stream.Place.{Place}
use Rattle.v_frame_y4m.specs.declared.error.Y4mError.{Y4mError}
use Rattle.yuv_pictures.specs.declared.error.PictureError.TheVariants.{NoPlane}
use Rattle.yuv_system.specs.declared.fault.Fault.{Fault}
use Rattle.yuv_system.specs.declared.fault.Fault.TheVariants.{Open, InputTwice, ReadAndWritten, NotAStream, NoBytes, NoPlanes, Header, Stream}
use Rattle.yuv_system.specs.declared.fault.Fault.TheVariants.{Report, Create, Replace, Rewrite, Target, Picture, Nothing, NoFrame, FrameZero, SwapsFields, NoWindow}

-- The place of the file that an error concerns, if it concerns a file.
abbrev pub place_of : Fault → Option Place
place_of (Open place cause) = Some place
place_of (InputTwice place) = Some place
place_of (ReadAndWritten place) = Some place
place_of (NotAStream place) = Some place
place_of (NoBytes place) = Some place
place_of (NoPlanes place) = Some place
place_of (Header error) = Some error.place
place_of (Stream error) = Some error.place
place_of (Report error) = Some error.place
place_of (Create cause) = Some Place.Output
place_of (Replace cause) = Some Place.Output
place_of (Rewrite cause) = Some Place.Output
place_of (Target written error) = Some Place.Output
place_of (Picture NoPlane) = Some Place.First
place_of (Picture error) = Some Place.Output
place_of (Nothing place taken) = Some place
place_of (NoFrame place frames) = Some place
place_of FrameZero = None
place_of (SwapsFields place from nearest) = Some place
place_of (NoWindow place) = Some place

-- The reason why the frame after the first `before` frames of a stream was not read: either the
-- stream has at most `before` frames, of which `after` were counted, or reading stopped with an
-- error at one of the frames.
abbrev pub StopsBehind : ℕ → TheStream → Place → Unread → Unread → ℕ → ℕ → Fault → Type 0
StopsBehind before stream place start left begun after (NoFrame which found) =
    (which ≡ place) × (found ≡ after) × EndsBefore before stream start.bytes left.bytes begun after
StopsBehind before stream place start left begun after (Stream error) =
    StopsAtFrame stream.container stream.frame_len start left (before + 1) begun after error.problem
StopsBehind before stream place start left begun after _ = ⊥

-- A frame of a stream cannot be read. The error is not one of the output.
abbrev pub IsBroken : StreamError → Type 0
IsBroken error =
    (error.place ≢ Place.Output) × ((cause : Y4mError) × (error.problem ≡ Problem.Stream cause))

-- An error of a stream occurs at its next frame, and has the cause that its reader reported last.
abbrev pub IsAtTheFrame : {R : Type 0} → Source R → Fault → Type 0
IsAtTheFrame source (Stream error) = IsAtNextFrame source error
IsAtTheFrame source _ = ⊤
