-- One more call: its result, its tables, and the planes that it may write.
use Rattle.std.proofs.Common.{◌≡◌, ◌<◌, length, refl, ◌∙◌, ap, arith}
use Rattle.std.proofs.lemmas.List.{take_all}
use Rattle.v_frame.specs.Frame.{tables_of, plane_at}
use Rattle.v_frame_raster.specs.Pixel.{PixelForm}
use Rattle.v_frame.specs.declared.frame.Frame.{Frame}
use Rattle.v_frame.proofs.Replays.{answers_more, tables_more, keeps_border_twice, written_before, written_now}
use Rattle.v_frame.proofs.Replays.{written_in_front}
use Rattle.v_frame.proofs.replay.replay.Goals as goal

pub loop-call-preserved : goal.loop-call-preserved
loop-call-preserved g c =
    let form : PixelForm g.row.T.Denot = g.T.Pixel.form in
    let calls = c.args.calls.now in
    let i = c.loop-call.call-index in
    let call = c.call-item.result in
    let within : i < length calls = omega arith in
    let so_far = c.loop-call.invariant in
    let did = c.in-Ok-replay_call.ensures in
    record {
      answers = rw c.unwrap.ensures at c.push.ensures.items ∙
          answers_more form calls i call within c.call-item.is _ _ _ _ so_far.tables so_far.answers did.answer;
      tables = tables_more form calls i call within c.call-item.is _ _ _ so_far.tables did.tables;
      border = keeps_border_twice c.args.frame.now c.loop-call.frame c.replay_call.new.frame so_far.border did.border;
      unwritten = λ index none. did.unwritten index
          (λ h. none (written_now calls i call within c.call-item.is index h)) ∙
          so_far.unwritten index (λ h. none (written_before calls i call within c.call-item.is index h));
      done = omega (arith, rw c.unwrap.ensures at c.push.ensures.len, so_far.done);
      room = omega (arith, so_far.room, c.push.ensures.capacity);
    }

pub returns-in-Err-replay_call-clause-unwritten : goal.returns-in-Err-replay_call-clause-unwritten
returns-in-Err-replay_call-clause-unwritten g c = λ index none.
    ap (λ (f : Frame g.row.T.Denot). plane_at f index) c.in-Err-replay_call.ensures.err ∙
    c.loop-call.invariant.unwritten index (λ h. none (written_in_front c.args.calls.now c.loop-call.call-index index h))

pub returns-in-Err-replay_call-clause-stopped : goal.returns-in-Err-replay_call-clause-stopped
returns-in-Err-replay_call-clause-stopped g c =
    let i = c.loop-call.call-index in
    let so_far = c.loop-call.invariant in
    let within : i < length c.args.calls.now = omega arith in
    let shown = ap (λ (f : Frame g.row.T.Denot). tables_of f) c.in-Err-replay_call.ensures.err ∙ so_far.tables in
    let count : length c.loop-call.done.items ≡ i = omega (arith, so_far.done) in
    rw c.into-in-Err-replay_call.ensures (record {
      early = omega arith;
      answers = rw count so_far.answers;
      tables = rw
          count shown;
    })

pub loop-call-init : goal.loop-call-init
loop-call-init g c = record {
  answers = c.in-Ok.ensures.items;
  tables = refl;
  border = record { subsampling = refl; bit_depth = refl; y_plane = refl; u_plane = refl; v_plane = refl };
  unwritten = λ index none. refl;
  done = c.in-Ok.ensures.len;
  room = omega (arith, c.in-Ok.ensures.capacity);
}

pub returns-clause-answers : goal.returns-clause-answers
returns-clause-answers g c = rw (take_all c.loop-call.call-index c.args.calls.now c.loop-call-test.false) at
    c.loop-call.invariant.answers

pub returns-clause-tables : goal.returns-clause-tables
returns-clause-tables g c = rw (take_all c.loop-call.call-index c.args.calls.now c.loop-call-test.false) at
    c.loop-call.invariant.tables

pub returns-clause-unwritten : goal.returns-clause-unwritten
returns-clause-unwritten g c = λ index none.
    c.loop-call.invariant.unwritten index (λ h. none (written_in_front c.args.calls.now c.loop-call.call-index index h))
