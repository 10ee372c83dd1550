-- The tables are compared row by row, and the rows pixel by pixel.
use Rattle.v_frame_raster.proofs.tables.ListItems.{same_by_pixel_at}
use Rattle.v_frame_ops.proofs.laws.tables_agree_by_pixels.Goals as goal

pub returns : goal.returns
returns g c = same_by_pixel_at
