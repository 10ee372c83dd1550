-- One more block of the frame was read.
use Rattle.std.proofs.Common.{ℕ, ◌≡◌, ◌≤◌, ◌+◌, ◌++◌, ◌∙◌, drop, length, length-append, length-drop, length-take-le, arith, subst}
use Rattle.std.proofs.KnownBytes.{Consumes-trans}
use Rattle.std.proofs.lemmas.Result.{err_from_is_err_and}
use Rattle.v_frame_streams.specs.Errors.{StopsInside}
use Rattle.v_frame_streams.specs.Sources.{unread_of, Stream}
use Rattle.v_frame_streams.proofs.Breaking.{stops_behind}
use Rattle.v_frame_streams.proofs.passing.skip_rest.Goals as goal

pub loop-done-preserved : goal.loop-done-preserved
loop-done-preserved g c =
    let before = c.loop-done.invariant in
    let done = c.in_ok-read_part.ensures in
    let block = c.loop-done.block in
    let count = c.min-count.result in
    let part = c.read_part.new.part in
    let fits : count ≤ length block = omega (arith, c.min-count.ensures, before.size) in
    let long : length part ≡ count = done.size ∙ length-take-le count block fits in
    record {
      from = omega (arith, before.from);
      within = omega (arith, c.min-count.ensures, c.frame_len-frame_len.ensures.value, before.within);
      read = (
        before.read.0 ++ part,
        Consumes-trans _ _ _ _ _ before.read.1 done.read,
        length-append before.read.0 part ∙ omega (arith, before.read.2, long, before.from),
      );
      uncounted = done.uncounted ∙ before.uncounted;
      same = done.same ∙ before.same;
      frames = done.frames ∙ before.frames;
      size = length-append part (drop count block) ∙ omega (arith, long, length-drop count block, fits, before.size);
    }

-- After the bytes read so far, the stream ended or a read failed.
pub returns-in_err-read_part-clause-problem : goal.returns-in_err-read_part-clause-problem
returns-in_err-read_part-clause-problem g c =
    let start = unread_of g.R.Read.remaining c.args.source.now in
    let mid = unread_of g.R.Read.remaining c.loop-done.source in
    let left = unread_of g.R.Read.remaining c.read_part.new.self in
    let before = c.loop-done.invariant in
    let problem = c.in_err-read_part.field-0.0.problem in
    let stops = subst (λ (s : Stream). StopsInside c.loop-done.done mid left s.frame_len problem) before.same
    c.in_err-read_part.ensures.problem in
    let long : c.loop-done.done ≡ c.args.before + length before.read.0 = omega (arith, before.read.2, before.from) in
    let p = err_from_is_err_and c.from_residual.result c.from_residual.ensures.1 in
    rw (p.1, p.2) (stops_behind start left _ mid before.uncounted c.args.before before.read.0 before.read.1 problem
    (subst (λ (n : ℕ). StopsInside n mid left c.args.source.now.frame_len problem) long stops))
