-- The lanes are squared differences, and their sum fits.
use Rattle.std.proofs.Common.{arith, w16, w64, lit<}
use Rattle.v_frame_raster.proofs.RowLanes.{wide_squared_block}
use Rattle.v_frame_raster.proofs.row_sums.squared_of_words.Goals as goal

pub overflow_add-result : goal.overflow_add-result
overflow_add-result g c =
    (wide_squared_block w16 w64 _ _ _ c.type_inv.a c.type_inv.b c.requires.first (lit< tt)
    (omega (arith, c.requires.lanes))).0

pub returns : goal.returns
returns g c =
    (wide_squared_block w16 w64 _ _ _ c.type_inv.a c.type_inv.b c.requires.first (lit< tt)
    (omega (arith, c.requires.lanes))).1
