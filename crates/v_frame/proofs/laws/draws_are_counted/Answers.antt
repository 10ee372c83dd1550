use Rattle.v_frame.proofs.Draws.{are_counted}
use Rattle.v_frame.proofs.laws.draws_are_counted.Goals as goal

pub returns : goal.returns
returns g c = are_counted g.row.T.Denot
