-- The columns so far have their marks.
use Rattle.std.proofs.Common.{◌≡◌, map}
use Rattle.std.specs.List.{range_with_len}
use Rattle.v_frame_chart.specs.Marks.{mark_at}
use Rattle.v_frame_chart.proofs.marks.marks.Given as goal

abbrev pub invariant-loop-k : goal.invariant-loop-k
invariant-loop-k l =
    l.found.items ≡ map (mark_at l.across l.down l.values l.summaries) (range_with_len 0 l.k)
