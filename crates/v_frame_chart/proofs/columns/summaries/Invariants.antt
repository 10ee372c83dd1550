-- The list has the columns so far.
use Rattle.std.proofs.Common.{◌≡◌, map}
use Rattle.std.specs.List.{range_with_len}
use Rattle.v_frame_chart.specs.Columns.{column_of, summary_of}
use Rattle.v_frame_chart.proofs.columns.summaries.Given as goal

abbrev pub invariant-loop-k : goal.invariant-loop-k
invariant-loop-k l =
    l.found.items ≡ map (λ k. summary_of (column_of l.values l.columns k)) (range_with_len 0 l.k)
