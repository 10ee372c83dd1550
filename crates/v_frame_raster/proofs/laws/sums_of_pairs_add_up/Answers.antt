use Rattle.v_frame_raster.proofs.SumsOfPairs.{sum_of_pairs-adds_up}
use Rattle.v_frame_raster.proofs.laws.sums_of_pairs_add_up.Goals as goal

pub returns : goal.returns
returns g c = sum_of_pairs-adds_up
