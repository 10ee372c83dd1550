-- The means so far.
use Rattle.std.proofs.Common.{◌≡◌, ◌++◌, flat_map}
use Rattle.std.specs.List.{range_with_len}
use Rattle.std.specs.String.{string_bytes}
use Rattle.v_frame_chart.specs.Lines.{mean_at}
use Rattle.v_frame_chart.proofs.lines.push_each_mean.Given as goal

abbrev pub invariant-loop-k : goal.invariant-loop-k
invariant-loop-k l = string_bytes l.text ≡ string_bytes l.fn.text ++ flat_map (mean_at l.drawn) (range_with_len 0 l.k)
