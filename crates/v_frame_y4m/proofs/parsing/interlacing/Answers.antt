-- I may occur only once.
use Rattle.std.proofs.Common.{refl, arith, lit<}
use Rattle.v_frame_y4m.proofs.parsing.interlacing.Goals as goal

pub unique_parameter-requires : goal.unique_parameter-requires
unique_parameter-requires c = ((3, lit< tt, refl), λ e. omega (arith, e))
