-- No pair adds more than two values of 16 bits can add.
use Rattle.std.proofs.Common.{arith, w8}
use Rattle.v_frame_raster.proofs.SumsOfPairs.{differences-at_most}
use Rattle.v_frame_raster.proofs.pixel.U8Pixel.sum_of_absolute_differences.Goals as goal

pub returns-clause-fits : goal.returns-clause-fits
returns-clause-fits c = rw c.sum_over_rows.ensures (differences-at_most w8 (omega arith) _ _ c.type_inv.a c.type_inv.b)
