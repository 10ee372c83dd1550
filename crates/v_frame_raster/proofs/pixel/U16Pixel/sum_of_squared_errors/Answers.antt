-- No pair adds more than two values of 16 bits can add.
use Rattle.std.proofs.Common.{arith, w16}
use Rattle.v_frame_raster.proofs.SumsOfPairs.{squares-at_most}
use Rattle.v_frame_raster.proofs.pixel.U16Pixel.sum_of_squared_errors.Goals as goal

pub returns-then-is_of_larger_block-clause-fits : goal.returns-then-is_of_larger_block-clause-fits
returns-then-is_of_larger_block-clause-fits c = rw c.squared_in_lanes.ensures (squares-at_most w16 (omega arith) _ _ c.type_inv.a c.type_inv.b)

pub returns-else-is_of_larger_block-clause-fits : goal.returns-else-is_of_larger_block-clause-fits
returns-else-is_of_larger_block-clause-fits c = rw c.sum_over_rows.ensures (squares-at_most w16 (omega arith) _ _ c.type_inv.a c.type_inv.b)
