use Rattle.v_frame.proofs.FullWalks.{changes_each_pixel}
use Rattle.v_frame.proofs.laws.iterations.full_iterations_change_each_pixel.Goals as goal

pub returns : goal.returns
returns g c = changes_each_pixel
