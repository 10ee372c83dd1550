-- One more entry.
use Rattle.std.proofs.Common.{arith}
use Rattle.v_frame_chart.specs.Words.{entry_of}
use Rattle.v_frame_chart.proofs.Appended.{entries_more, no_series}
use Rattle.v_frame_chart.proofs.words.push_entries.Goals as goal

pub loop-k-preserved : goal.loop-k-preserved
loop-k-preserved c =
    entries_more entry_of c.args.series.now c.loop-k.k no_series _ _ _ (omega arith)
    (c.in_ok-push_entry.ensures {u = tt}) c.loop-k.invariant
