-- Calls by number yield each item once.
use Rattle.std.proofs.lemmas.Result.{IfOk-weaker}
use Rattle.v_frame.proofs.Draws.{sides_drawn_once}
use Rattle.v_frame.proofs.laws.bytes_are_drawn_once.Goals as goal

pub returns-clause-once : goal.returns-clause-once
returns-clause-once g c =
    IfOk-weaker c.draw_items.result _ _ (λ drawn. sides_drawn_once _ _ drawn.items)
    (rw (c.byte_data.ensures.bytes) at c.draw_items.ensures)
