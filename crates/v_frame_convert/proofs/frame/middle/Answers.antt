-- The neutral value of a depth is one of its values.
use Rattle.std.proofs.Common.{arith}
use Rattle.v_frame_convert.proofs.Depths.{middle_within}
use Rattle.v_frame_convert.proofs.frame.middle.Goals as goal

pub from_value-requires-after_bounds : goal.from_value-requires-after_bounds
from_value-requires-after_bounds g c κs within =
    middle_within g.T.Pixel.BYTES c.args.depth (omega (arith, c.requires.low)) c.requires.high
