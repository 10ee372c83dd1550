-- One more mark.
use Rattle.std.proofs.Common.{ap, ◌∙◌}
use Rattle.std.specs.Prelude.{None, option_map, slice_index_or}
use Rattle.v_frame_chart.specs.Marks.{mark_at, mark_of}
use Rattle.v_frame_chart.proofs.Pushed.{pushed}
use Rattle.v_frame_chart.proofs.marks.marks.Goals as goal

pub loop-k-preserved : goal.loop-k-preserved
loop-k-preserved c =
    let across = c.args.across in let down = c.args.down in let summaries = c.args.summaries.now in let k = c.loop-k.k in
    pushed (mark_at across down c.args.values summaries) k _ _ _ c.in_ok-push.ensures.items c.loop-k.invariant
    (c.marked.ensures
    ∙ ap (λ frame. option_map (mark_of across down frame) (slice_index_or summaries k None)) c.middle.ensures)
