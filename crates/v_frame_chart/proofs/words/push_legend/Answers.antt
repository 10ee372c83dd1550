-- The head, the entries and the end.
use Rattle.v_frame_chart.specs.Words.{legend_of}
use Rattle.v_frame_chart.proofs.Appended.{joined3}
use Rattle.v_frame_chart.proofs.words.push_legend.Goals as goal

pub returns : goal.returns
unfolding legend_of
returns c = joined3 _ _ _ _ _ _ _ (c.in_ok-push_text_head.ensures {u = tt}) (c.in_ok-push_entries.ensures {u = tt})
    (c.in_ok-push_text_end.ensures {u = tt})
