-- The dots so far.
use Rattle.std.proofs.Common.{◌≡◌, ◌++◌, flat_map}
use Rattle.std.specs.List.{range_with_len}
use Rattle.std.specs.String.{string_bytes}
use Rattle.v_frame_chart.specs.Lines.{dot_at}
use Rattle.v_frame_chart.proofs.lines.push_dots.Given as goal

abbrev pub invariant-loop-k : goal.invariant-loop-k
invariant-loop-k l = string_bytes l.text ≡ string_bytes l.fn.text ++ flat_map (dot_at l.drawn l.color) (range_with_len 0 l.k)
