-- The results and the remaining items are those of the calls so far, and the memory for the other results is
-- allocated.
use Rattle.std.proofs.Common.{◌≡◌, ◌≤◌, length, map, take, vec_len, vec_capacity}
use Rattle.v_frame.specs.Walk.{drawn_in_turn, remaining_in_turn}
use Rattle.v_frame.proofs.replay.walk.draw_items.Given as goal

abbrev pub invariant-loop-draw : goal.invariant-loop-draw
invariant-loop-draw g l = record {
  answers : l.drawn.items ≡ drawn_in_turn (g.W.Walk.items l.fn.walk) (take l.draw-index (map g.D.Draw.side_of l.draws));
  remaining : g.W.Walk.items l.walk ≡ remaining_in_turn (g.W.Walk.items l.fn.walk)
      (take l.draw-index (map g.D.Draw.side_of l.draws));
  drawn : vec_len l.drawn ≡ l.draw-index;
  room : length l.draws ≤ vec_capacity l.drawn;
}
