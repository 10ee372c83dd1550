-- A failed read or write has a cause.
use Rattle.std.proofs.Common.{Option, refl}
use Rattle.std.specs.declared.io.ErrorKind.{ErrorKind}
use Rattle.v_frame_planar.specs.declared.error.PlanarError.TheVariants.{OutOfMemory, Read, TooLarge, Truncated, Write, WriteZero}
use Rattle.v_frame_y4m.specs.declared.error.Y4mError.{Y4mError}
use Rattle.v_frame_y4m.specs.declared.error.Y4mError.TheVariants.{Header, LineTooLong, NoFrame, Planar, UnfinishedLine}
use Rattle.v_frame_y4m.specs.Streams.{TellsStreamCause}
use Rattle.v_frame_streams.specs.Errors.{cause_of, HasCause}
use Rattle.v_frame_streams.specs.declared.error.Problem.TheVariants.{Stream}

-- If a read or a write failed, its error is the cause.
pub has_cause : (old new : Option ErrorKind) (error : Y4mError) → TellsStreamCause old new error
    → HasCause (Stream error) (cause_of (Stream error) new)
has_cause old new (Header error) told = refl
has_cause old new LineTooLong told = refl
has_cause old new UnfinishedLine told = refl
has_cause old new NoFrame told = refl
has_cause old new (Planar (Truncated expected found)) told = refl
has_cause old new (Planar TooLarge) told = refl
has_cause old new (Planar OutOfMemory) told = refl
has_cause old new (Planar Read) told = told
has_cause old new (Planar Write) told = told
has_cause old new (Planar WriteZero) told = refl
