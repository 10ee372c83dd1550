-- This holds for every summand of a pair.
use Rattle.v_frame_ops.proofs.rows.sums.differences_add_up.Goals as goal

pub returns : goal.returns
returns g c = c.sums_of_pairs_add_up.ensures (λ p. g.D.RowDifference.between p.0 p.1)
