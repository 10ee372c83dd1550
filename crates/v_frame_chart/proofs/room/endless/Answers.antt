-- The number 10 ^ 309 is above the greatest float.
use Rattle.std.proofs.Common.{refl}
use Rattle.std.specs.Float.Ieee.{mul, of_int}
use Rattle.v_frame_chart.specs.Scales.{number_at, ten_power, value_of}
use Rattle.v_frame_chart.proofs.room.endless.Goals as goal

pub returns-clause-low : goal.returns-clause-low
unfolding number_at ten_power value_of mul of_int
returns-clause-low c = refl

pub returns-clause-high : goal.returns-clause-high
unfolding number_at ten_power value_of mul of_int
returns-clause-high c = refl
