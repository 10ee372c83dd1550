-- One more line.
use Rattle.std.proofs.Common.{rules}
use Rattle.v_frame_chart.specs.Scales.{grid_line}
use Rattle.v_frame_chart.proofs.Appended.{appended}
use Rattle.v_frame_chart.proofs.grid.push_grid.Goals as goal

pub loop-k-preserved : goal.loop-k-preserved
loop-k-preserved c = appended (grid_line c.args.scale.now) c.loop-k.k _ _ _ (search rules) c.loop-k.invariant
