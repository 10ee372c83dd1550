-- One more frame was skipped.
use Rattle.std.proofs.Common.{◌≡◌, ◌∙◌, ◌+◌, Bool, true, arith, subst}
use Rattle.std.specs.Prelude.{min}
use Rattle.std.proofs.lemmas.Result.{err_from_is_err_and}
use Rattle.v_frame_streams.specs.Errors.{StopsFrame}
use Rattle.v_frame_streams.specs.Sources.{bytes_left, unread_of, Stream}
use Rattle.v_frame_streams.specs.Streams.{frames_after, most_frames, ReadsWhole}
use Rattle.v_frame_streams.proofs.Reading.{one_more_counted}
use Rattle.v_frame_streams.proofs.MoreTold.{one_more_told}
use Rattle.v_frame_streams.proofs.passing.skip_frames.Goals as goal

pub loop-count-preserved : goal.loop-count-preserved
loop-count-preserved g c =
    let before = c.loop-count.invariant in
    let done = c.in_ok-skip_frame.ensures in
    let mid = bytes_left g.R.Read.remaining c.loop-count.source in
    let left = bytes_left g.R.Read.remaining c.skip_frame.new.source in
    let one = subst (λ (more : Bool). ReadsWhole mid left c.loop-count.source.container c.loop-count.source.frame_len
    more) c.if-not-branch.false done.read in
    let next = subst (λ (s : Stream). ReadsWhole mid left s.container s.frame_len true) before.same one in
    let counted : c.skip_frame.new.source.frames ≡ min (c.loop-count.source.frames + 1) most_frames =
    subst (λ (more : Bool). c.skip_frame.new.source.frames ≡ frames_after c.loop-count.source.frames more)
    c.if-not-branch.false done.frames in
    record {
      counted = one_more_counted _ _ _ mid left _ before.counted next.0 next.1 next.2;
      same = done.same ∙ before.same;
      frames = omega (arith, before.frames, counted);
      uncounted = done.unfailed ∙ before.uncounted;
      some = omega (arith, done.size, before.some);
      told = one_more_told g.P.Progress.shows _ _ _ _ before.told c.show_one_more.ensures;
    }

-- The frame at which the call failed comes after those that were counted.
pub returns-in_err-skip_frame-clause-problem : goal.returns-in_err-skip_frame-clause-problem
returns-in_err-skip_frame-clause-problem g c =
    let left = unread_of g.R.Read.remaining c.skip_frame.new.source in
    let before = c.loop-count.invariant in
    let stops = c.in_err-skip_frame.ensures in
    let p = err_from_is_err_and c.from_residual.result c.from_residual.ensures.1 in
    rw (p.1, p.2) record {
      frames = before.counted.frames;
      mid = unread_of g.R.Read.remaining c.loop-count.source;
      read = before.counted.read;
      unfailed = before.uncounted;
      fewer = omega (arith, before.counted.counted, c.loop-count-test.true);
      counted = omega (arith, stops.uncounted, before.frames, before.counted.counted);
      stops = subst (λ (s : Stream). StopsFrame s.container (unread_of g.R.Read.remaining c.loop-count.source) left
          s.frame_len c.in_err-skip_frame.field-0.0.problem) before.same stops.problem;
    }
