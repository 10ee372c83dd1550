-- Memory was not available, or the stream ended.
use Rattle.std.proofs.Common.{length, ◌∙◌, ap}
use Rattle.std.proofs.lemmas.List.{take_at}
use Rattle.v_frame_planar.proofs.Stops.{no_room, was_read, was_truncated}
use Rattle.v_frame_planar.proofs.reading.read_frame.Goals as goal

pub returns-in_err-bytes-clause-error : goal.returns-in_err-bytes-clause-error
returns-in_err-bytes-clause-error g c =
    no_room g.R.Read.remaining c.args.reader.now _ c.from_residual.result _ c.from_residual.ensures.1
    c.in_err-bytes.ensures.error

pub returns-clause-read : goal.returns-clause-read
returns-clause-read g c =
    let done = c.in_ok-found.ensures in
    let same = c.as_slice.ensures.value ∙ take_at c.read_until_full.new.buf _ _
    (done.size ∙ c.as_mut_slice.ensures.len) in
    was_read g.R.Read.remaining c.args.reader.now c.read_until_full.new.reader _ _ done.bytes done.at_end _ _
    c.store_whole_frame.result
    (rw same at c.store_whole_frame.ensures.shown)

pub returns-clause-error : goal.returns-clause-error
returns-clause-error g c =
    let done = c.in_ok-found.ensures in
    let lent = c.as_mut_slice.ensures in
    let same = c.as_slice.ensures.value ∙ take_at c.read_until_full.new.buf _ _ (done.size ∙ lent.len) in
    let size = done.size ∙ ap length lent.value ∙ c.in_ok-bytes.ensures.room in
    was_truncated g.R.Read.remaining c.args.reader.now c.read_until_full.new.reader _ _ done.bytes done.at_end _ _
    c.store_whole_frame.result size done.bound
    done.uncounted (rw same at c.store_whole_frame.ensures.truncated)
