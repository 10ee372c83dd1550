-- The rows so far, beginning with the last one, are mixed, and the other rows and the border are unchanged.
use Rattle.std.proofs.Common.{ℕ, ◌≡◌, ◌+◌, ◌≤◌, List, Some, slice_get}
use Rattle.v_frame.specs.Prelude.{KeepsBorder, table_of}
use Rattle.example_callers.specs.RowPairs.{averages}
use Rattle.example_callers.proofs.row_pairs.mix_rows_up.Given as goal

abbrev pub invariant-loop-k : goal.invariant-loop-k
invariant-loop-k l = record {
  mixed : (j : ℕ) (above row : List ℕ) → l.height ≤ j + l.k → slice_get (table_of l.fn.plane) j ≡ Some above →
      slice_get (table_of l.fn.plane) (j + 1) ≡ Some row → slice_get (table_of l.plane) (j + 1) ≡ Some
      (averages row above);
  others : (j : ℕ) → j + l.k ≤ l.height → slice_get (table_of l.plane) j ≡ slice_get (table_of l.fn.plane) j;
  border : KeepsBorder l.fn.plane l.plane;
}
