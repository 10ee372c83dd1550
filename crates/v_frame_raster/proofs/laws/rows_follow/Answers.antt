use Rattle.v_frame_raster.proofs.SumsOfPairs.{row_and_rest}
use Rattle.v_frame_raster.proofs.laws.rows_follow.Goals as goal

pub returns : goal.returns
returns g c = row_and_rest
