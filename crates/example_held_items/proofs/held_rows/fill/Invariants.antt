-- The entries of the row so far have the value.
use Rattle.std.proofs.Common.{◌≡◌, ◌++◌, drop, replicate}
use Rattle.example_held_items.proofs.held_rows.fill.Given as goal

abbrev pub invariant-loop-i : goal.invariant-loop-i
invariant-loop-i g l = l.row ≡ replicate l.i l.value ++ drop l.i l.initial.row
