-- One more frame was copied.
use Rattle.std.proofs.Common.{◌≡◌, ◌∙◌, Bool, true, arith, inl, subst}
use Rattle.std.proofs.lemmas.Result.{err_from_is_err_and}
use Rattle.v_frame_streams.specs.Copies.{MovesNext}
use Rattle.v_frame_streams.specs.Sources.{bytes_left, Stream}
use Rattle.v_frame_streams.specs.Streams.{frames_after}
use Rattle.v_frame_streams.specs.declared.stream.Container.{Container}
use Rattle.v_frame_streams.proofs.Reading.{one_more_carried}
use Rattle.v_frame_streams.proofs.MoreTold.{one_more_told}
use Rattle.v_frame_streams.proofs.moving.move_frames.Goals as goal

pub loop-count-preserved : goal.loop-count-preserved
loop-count-preserved g c =
    let before = c.loop-count.invariant in
    let done = c.in_ok-move_frame.ensures in
    let mid = bytes_left g.R.Read.remaining c.loop-count.source in
    let left = bytes_left g.R.Read.remaining c.move_frame.new.source in
    let now = g.W.Write.contents c.loop-count.sink.writer.inner in
    let has = g.W.Write.contents c.move_frame.new.sink.writer.inner in
    let one = subst (λ (more : Bool). MovesNext c.loop-count.source.container c.loop-count.source.frame_len mid left
    now has c.loop-count.sink.container more) c.if-not-branch.false done.moved in
    let from = subst (λ (s : Stream). MovesNext s.container s.frame_len mid left now has c.loop-count.sink.container
    true) before.same one in
    let next = subst (λ (k : Container). MovesNext c.args.source.now.container c.args.source.now.frame_len mid left now
    has k true) before.to from in
    let counted = subst (λ (more : Bool). (c.move_frame.new.source.frames ≡ frames_after c.loop-count.source.frames more)
    × (c.move_frame.new.sink.frames ≡ frames_after c.loop-count.sink.frames more)) c.if-not-branch.false done.counted in
    record {
      carried = one_more_carried _ _ _ _ _ mid left _ now has _ before.carried next.0 next.1 next.2 next.3;
      same = done.same ∙ before.same;
      to = done.container ∙ before.to;
      read = omega (arith, before.read, counted.0);
      written = omega (arith, before.written, counted.1);
      some = omega (arith, done.size, before.some);
      told = one_more_told g.P.Progress.shows _ _ _ _ before.told c.show_one_more.ensures;
    }

-- The frame at which the call failed comes after those that were copied.
pub returns-in_err-move_frame-clause-broken : goal.returns-in_err-move_frame-clause-broken
returns-in_err-move_frame-clause-broken g c =
    let before = c.loop-count.invariant in
    let stops = c.in_err-move_frame.ensures.uncounted in
    let p = err_from_is_err_and c.from_residual.result c.from_residual.ensures.1 in
    rw (p.1) record {
      frames = before.carried.frames;
      mid = bytes_left g.R.Read.remaining c.loop-count.source;
      read = before.carried.read;
      bound = omega (arith, before.carried.counted, c.loop-count-test.true);
      counted = inl (omega (arith, stops.0, before.read, before.carried.counted));
      written = c.loop-count.count;
      also_counted = inl (omega (arith, stops.1, before.written));
      behind = inl (omega (arith, before.carried.counted));
    }
