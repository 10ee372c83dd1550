-- The sum of the two parts is the number, rounded once.
use Rattle.std.proofs.Common.{lit≤}
use Rattle.std.specs.Float.Ieee.{binary32}
use Rattle.core.proofs.num.Nearest.{halves_masked}
use Rattle.v_frame_measures.proofs.Halves.{two_to_24}
use Rattle.v_frame_measures.proofs.casts.nearest_f32.Goals as goal

pub returns : goal.returns
returns c = halves_masked binary32 24 c.args.number _ two_to_24 (lit≤ tt) (lit≤ tt) c.requires
