-- The rows so far are mixed, and the other rows and the border are unchanged.
use Rattle.std.proofs.Common.{ℕ, ◌≡◌, ◌+◌, ◌<◌, ◌≤◌, List, Some, slice_get}
use Rattle.v_frame.specs.Prelude.{KeepsBorder, table_of}
use Rattle.example_callers.specs.RowPairs.{averages}
use Rattle.example_callers.proofs.row_pairs.mix_rows_down.Given as goal

abbrev pub invariant-loop-y : goal.invariant-loop-y
invariant-loop-y l = record {
  mixed : (k : ℕ) (row below : List ℕ) → k < l.y → slice_get (table_of l.fn.plane) k ≡ Some row → slice_get
      (table_of l.fn.plane) (k + 1) ≡ Some below →
      slice_get (table_of l.plane) k ≡ Some (averages row below);
  others : (k : ℕ) → l.y ≤ k → slice_get (table_of l.plane) k ≡ slice_get (table_of l.fn.plane) k;
  border : KeepsBorder l.fn.plane l.plane;
}
