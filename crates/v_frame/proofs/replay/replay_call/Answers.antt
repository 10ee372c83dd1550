-- The effect of the call on the table of its plane is its effect on the tables of the frame.
use Rattle.std.proofs.Common.{rules, sym, ◌∙◌, ap}
use Rattle.std.proofs.lemmas.Result.{IfOk-weaker, on_ok_weaker}
use Rattle.v_frame.proofs.PlaneCalls.{found, reply_there, tables_there, others_stay}
use Rattle.v_frame.proofs.replay.replay_call.Goals as goal

pub returns-in-Some : goal.returns-in-Some
returns-in-Some g c =
    let frame = c.args.frame.now in
    let call = c.args.call.now in
    let here = found frame call c.plane.result c.plane_mut.result c.in-Some.plane c.plane.ensures
    c.plane_mut.ensures.value c.in-Some.is in
    let there = reply_there frame g.T.Pixel.form call _ here in
    let new = c.replay_on_plane.new.plane in
    record {
      answer = IfOk-weaker c.replay_on_plane.result _ _ (λ answer is. is ∙ sym (ap (λ reply. reply.answer) there))
          c.replay_on_plane.ensures.answer;
      tables = on_ok_weaker c.replay_on_plane.result
          (tables_there frame g.T.Pixel.form call _ here c.plane.result new c.plane.ensures)
          c.replay_on_plane.ensures.table;
      err = search rules;
      border = search rules;
      unwritten = others_stay frame g.T.Pixel.form call _ here c.plane.result new c.plane.ensures
          c.replay_on_plane.ensures.unwritten;
    }
