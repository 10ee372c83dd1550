use Rattle.v_frame_raster.proofs.HalfRows.{halved-append, length-halved}
use Rattle.v_frame_raster.proofs.laws.halves_join.Goals as goal

pub returns-clause-length : goal.returns-clause-length
returns-clause-length g c = length-halved g.T.Pixel.form

pub returns-clause-joined : goal.returns-clause-joined
returns-clause-joined g c = halved-append g.T.Pixel.form
