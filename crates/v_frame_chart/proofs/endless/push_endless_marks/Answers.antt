-- One more mark.
use Rattle.std.proofs.Common.{rules}
use Rattle.v_frame_chart.proofs.Appended.{appended}
use Rattle.v_frame_chart.specs.Endless.{endless_at}
use Rattle.v_frame_chart.proofs.endless.push_endless_marks.Goals as goal

pub loop-j-preserved : goal.loop-j-preserved
loop-j-preserved c = appended (endless_at c.args.across c.args.values.now c.args.columns c.args.row) c.loop-j.j _ _ _
    (search rules) c.loop-j.invariant
