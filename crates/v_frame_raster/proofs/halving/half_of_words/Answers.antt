-- The lanes are the means of squares of four pixels.
use Rattle.std.proofs.Common.{arith}
use Rattle.std.proofs.lemmas.Grind.{common_steps}
use Rattle.v_frame_raster.proofs.HalfLanes.{halved_words}
use Rattle.v_frame_raster.proofs.halving.half_of_words.Goals as goal

pub returns : goal.returns
returns c = halved_words 8 _ _ c.requires.first c.requires.second c.type_inv.top c.type_inv.bottom

pub overflow_cast-result : goal.overflow_cast-result
overflow_cast-result c = grind (arith, common_steps)
