-- If the header was not read, the cause of the error is the last failure of the reader.
use Rattle.std.proofs.Common.{Option, refl, subst, sym}
use Rattle.std.specs.declared.io.ErrorKind.{ErrorKind}
use Rattle.v_frame_y4m.specs.Streams.{TellsStreamCause}
use Rattle.std.specs.Io.Buffered.{reader_remaining}
use Rattle.v_frame_streams.specs.Errors.{IsAtStart, StopsOpening}
use Rattle.v_frame_streams.specs.declared.error.StreamError.{StreamError}
use Rattle.v_frame_streams.proofs.Causes.{has_cause}
use Rattle.v_frame_streams.proofs.Opening.{opening_stops}
use Rattle.v_frame_streams.proofs.source.read_header.Goals as goal

pub returns-in-Err-clause-stopped : goal.returns-in-Err-clause-stopped
returns-in-Err-clause-stopped g c =
    let told : TellsStreamCause c.args.reader.now.last_failure c.last_failure-last_failure.result c.in-Err.error =
    subst (λ (k : Option ErrorKind). TellsStreamCause c.args.reader.now.last_failure k c.in-Err.error)
    (sym c.last_failure-last_failure.ensures) c.in-Err.ensures.cause in
    subst (IsAtStart c.args.place) (sym c.at_frame.ensures)
    (record { place = refl; frames = refl; cause = has_cause _ _ c.in-Err.error told })

pub returns-in-Err-clause-refused : goal.returns-in-Err-clause-refused
returns-in-Err-clause-refused g c =
    let remaining = reader_remaining g.R.Read.remaining in
    subst (λ (e : StreamError). StopsOpening (remaining c.args.reader.now.inner) e.problem) (sym c.at_frame.ensures)
    (opening_stops remaining c.args.reader.now c.read_lax_header.new.reader c.in-Err.error c.in-Err.ensures.error)
