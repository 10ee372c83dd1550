-- The marks so far.
use Rattle.std.proofs.Common.{◌≡◌, ◌+◌, ◌*◌, ◌++◌, flat_map, map}
use Rattle.std.specs.List.{range_with_len}
use Rattle.std.specs.String.{string_bytes}
use Rattle.v_frame_chart.specs.Frames.{across_of, first_mark, frame_mark}
use Rattle.v_frame_chart.proofs.frames.push_frame_marks.Given as goal

abbrev pub invariant-loop-k : goal.invariant-loop-k
invariant-loop-k l = string_bytes l.text ≡ string_bytes l.fn.text
    ++ flat_map (frame_mark (across_of l.fn.span) l.first)
    (map (λ k. first_mark l.first l.step + k * l.step) (range_with_len 0 l.k))
