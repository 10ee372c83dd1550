-- One more dot.
use Rattle.std.proofs.Common.{rules}
use Rattle.v_frame_chart.proofs.Appended.{appended}
use Rattle.v_frame_chart.specs.Lines.{dot_at}
use Rattle.v_frame_chart.proofs.lines.push_dots.Goals as goal

pub loop-k-preserved : goal.loop-k-preserved
loop-k-preserved c = appended (dot_at c.args.drawn.now c.args.color.now) c.loop-k.k _ _ _ (search rules) c.loop-k.invariant
