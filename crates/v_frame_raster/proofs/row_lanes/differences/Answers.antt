-- The lanes are absolute differences.
use Rattle.std.proofs.Common.{w16, w32}
use Rattle.v_frame_raster.proofs.RowLanes.{gaps_are}
use Rattle.v_frame_raster.proofs.row_lanes.differences.Goals as goal

pub returns : goal.returns
returns c = gaps_are w16 w32 8 _ _ c.type_inv.a c.type_inv.b c.requires.first
