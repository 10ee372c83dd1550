-- The lanes are squared differences, which fit into 32 bits.
use Rattle.std.proofs.Common.{w16, w64, lit<}
use Rattle.v_frame_raster.proofs.RowLanes.{widened_squares}
use Rattle.v_frame_raster.proofs.row_lanes.squares.Goals as goal

pub returns : goal.returns
returns c =
    rw c.differences-differences.ensures
    (widened_squares w16 w64 8 _ _ c.type_inv.a c.type_inv.b c.requires.first (lit< tt))
