use Rattle.v_frame.proofs.Draws.{drawn_once}
use Rattle.v_frame.proofs.laws.items_are_drawn_once.Goals as goal

pub returns : goal.returns
returns g c = drawn_once
