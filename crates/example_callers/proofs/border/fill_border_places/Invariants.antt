-- The rows above row y are filled.
use Rattle.std.proofs.Common.{◌+◌, ◌*◌}
use Rattle.example_callers.proofs.FilledBorders.{IsFilledUpTo}
use Rattle.example_callers.proofs.border.fill_border_places.Given as goal

abbrev pub invariant-loop-y : goal.invariant-loop-y
invariant-loop-y g l = IsFilledUpTo l.geometry l.value ((l.top + l.y) * l.stride) l.fn.buffer l.buffer
