-- The bits are those of infinity.
use Rattle.std.proofs.Common.{refl}
use Rattle.std.specs.Float.Ieee.{of_bits}
use Rattle.v_frame_chart.proofs.columns.infinity.Goals as goal

pub returns : goal.returns
unfolding of_bits
returns c = refl
