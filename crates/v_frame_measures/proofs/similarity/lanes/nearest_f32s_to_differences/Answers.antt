use Rattle.v_frame_measures.proofs.SignedLanes.{differences}
use Rattle.v_frame_measures.proofs.similarity.lanes.nearest_f32s_to_differences.Goals as goal

pub returns : goal.returns
returns c =
    differences c.args.numbers c.args.less c.nearest_f32s-sizes.result c.fits-numbers.1 c.fits-less.1 c.nearest_f32s-sizes.ensures
