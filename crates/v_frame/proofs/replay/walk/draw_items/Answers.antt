-- One more call, and the end.
use Rattle.std.proofs.Common.{◌≡◌, ◌<◌, List, length, map, get_or, sym, ◌∙◌, ap, arith}
use Rattle.std.proofs.lemmas.List.{get_or-map, length-map}
use Rattle.v_frame.specs.declared.replay.draw.Side.{Side}
use Rattle.v_frame.proofs.Draws.{drawn_more, left_more, all_drawn}
use Rattle.v_frame.proofs.replay.walk.draw_items.Goals as goal

pub loop-draw-preserved : goal.loop-draw-preserved
loop-draw-preserved g c =
    let draws = c.args.draws.now in
    let sides : List Side = map g.D.Draw.side_of draws in
    let i = c.loop-draw.draw-index in
    let within : i < length sides = omega (arith, length-map draws g.D.Draw.side_of) in
    let here : c.side.result ≡ get_or sides i c.side.result = c.side.ensures ∙ ap g.D.Draw.side_of c.draw-item.is ∙
    sym (get_or-map g.D.Draw.side_of draws i c.draw-item.result c.side.result c.loop-draw-test.true) in
    let so_far = c.loop-draw.invariant in
    let drew = c.in_ok-item.ensures in
    record {
      answers = rw c.unwrap.ensures at c.push.ensures.items ∙
          drawn_more _ sides i _ within here _ _ so_far.remaining drew.remaining _ _ _ so_far.answers drew.item
          c.remaining.ensures;
      remaining = left_more _ sides i _ within here _ _ so_far.remaining drew.remaining;
      drawn = omega (arith, rw c.unwrap.ensures at c.push.ensures.len, so_far.drawn);
      room = omega (arith, so_far.room, c.push.ensures.capacity);
    }

pub returns : goal.returns
returns g c = all_drawn _ (map g.D.Draw.side_of c.args.draws.now) c.loop-draw.draw-index _
    (omega (arith, length-map c.args.draws.now g.D.Draw.side_of)) c.loop-draw.invariant.answers
