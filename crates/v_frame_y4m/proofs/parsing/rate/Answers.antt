-- F and A may occur only once.
use Rattle.v_frame_y4m.proofs.Letters.{ratios_once}
use Rattle.v_frame_y4m.proofs.parsing.rate.Goals as goal

pub unique_parameter-requires : goal.unique_parameter-requires
unique_parameter-requires c = ratios_once c.args.letter c.requires
