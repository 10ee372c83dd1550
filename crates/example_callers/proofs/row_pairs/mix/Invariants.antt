-- The pixels so far are averages, and the others are unchanged.
use Rattle.std.proofs.Common.{◌≡◌, ◌++◌, take, drop}
use Rattle.example_callers.specs.RowPairs.{averages}
use Rattle.example_callers.proofs.row_pairs.mix.Given as goal

abbrev pub invariant-loop-x : goal.invariant-loop-x
invariant-loop-x l = l.row ≡ take l.x (averages l.fn.row l.other) ++ drop l.x l.fn.row
