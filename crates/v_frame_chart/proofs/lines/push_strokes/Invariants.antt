-- The strokes so far.
use Rattle.std.proofs.Common.{◌≡◌, ◌++◌, flat_map, take}
use Rattle.std.specs.String.{string_bytes}
use Rattle.v_frame_chart.specs.Lines.{stroke_of}
use Rattle.v_frame_chart.proofs.lines.push_strokes.Given as goal

abbrev pub invariant-loop-mark : goal.invariant-loop-mark
invariant-loop-mark l = string_bytes l.text ≡ string_bytes l.fn.text ++ flat_map stroke_of (take l.mark-index l.drawn)
