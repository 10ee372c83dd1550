-- The lanes are absolute differences, and their sum fits.
use Rattle.std.proofs.Common.{arith, w8, w32, ◌∙◌}
use Rattle.v_frame_raster.proofs.RowLanes.{absolute_block}
use Rattle.v_frame_raster.proofs.row_sums.absolute_of_bytes.Goals as goal

pub overflow_add-differences : goal.overflow_add-differences
overflow_add-differences g c =
    (absolute_block w8 w32 _ _ _ c.type_inv.a c.type_inv.b c.requires.first (omega (arith, c.requires.lanes))).0

pub returns : goal.returns
returns g c =
    c.from.ensures
    ∙ (absolute_block w8 w32 _ _ _ c.type_inv.a c.type_inv.b c.requires.first (omega (arith, c.requires.lanes))).1
