use Rattle.v_frame_raster.proofs.tables.Lists.{same_by_slice_get}
use Rattle.v_frame_raster.proofs.laws.lists_agree_by_items.Goals as goal

pub returns : goal.returns
returns g c = same_by_slice_get
