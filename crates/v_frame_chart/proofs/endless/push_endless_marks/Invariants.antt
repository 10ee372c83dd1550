-- The marks so far.
use Rattle.std.proofs.Common.{◌≡◌, ◌++◌, flat_map}
use Rattle.std.specs.List.{range_with_len}
use Rattle.std.specs.String.{string_bytes}
use Rattle.v_frame_chart.specs.Endless.{endless_at}
use Rattle.v_frame_chart.proofs.endless.push_endless_marks.Given as goal

abbrev pub invariant-loop-j : goal.invariant-loop-j
invariant-loop-j l = string_bytes l.text ≡ string_bytes l.fn.text
    ++ flat_map (endless_at l.across l.values l.columns l.row) (range_with_len 0 l.j)
