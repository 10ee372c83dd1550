-- The reason why the line in front of a frame was not read.
use Rattle.std.proofs.Common.{subst, sym}
use Rattle.std.specs.Io.Buffered.{reader_remaining}
use Rattle.v_frame_streams.specs.Errors.{StopsFrame}
use Rattle.v_frame_streams.specs.declared.error.Problem.{Problem}
use Rattle.v_frame_streams.specs.declared.stream.Container.TheVariants.{Y4m}
use Rattle.v_frame_streams.proofs.Opening.{line_stops, unread}
use Rattle.v_frame_streams.proofs.source.Source.read_line.Goals as goal

pub returns-in-Err-clause-problem : goal.returns-in-Err-clause-problem
returns-in-Err-clause-problem g c =
    let remaining = reader_remaining g.R.Read.remaining in
    let old = c.args.self.now.reader in
    let new = c.read_lax_frame_line.new.reader in
    subst (λ (p : Problem). StopsFrame Y4m (unread remaining old) (unread remaining new) c.args.self.now.frame_len p)
    (sym c.stopped.ensures.problem)
    (line_stops remaining old new c.args.self.now.frame_len c.in-Err.error c.in-Err.ensures.error)
