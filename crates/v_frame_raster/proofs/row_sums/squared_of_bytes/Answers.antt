-- The lanes are squared differences, and their sum fits.
use Rattle.std.proofs.Common.{arith, w8, w32, ◌∙◌, lit<}
use Rattle.v_frame_raster.proofs.RowLanes.{squared_block}
use Rattle.v_frame_raster.proofs.row_sums.squared_of_bytes.Goals as goal

pub overflow_add-differences : goal.overflow_add-differences
overflow_add-differences g c =
    (squared_block w8 w32 _ _ _ c.type_inv.a c.type_inv.b c.requires.first (lit< tt)
    (omega (arith, c.requires.lanes))).0

pub returns : goal.returns
returns g c =
    c.from.ensures
    ∙ (squared_block w8 w32 _ _ _ c.type_inv.a c.type_inv.b c.requires.first (lit< tt)
    (omega (arith, c.requires.lanes))).1
