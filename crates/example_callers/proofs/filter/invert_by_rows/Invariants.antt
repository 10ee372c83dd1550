-- The rows so far are inverted, and the other rows and the border are unchanged.
use Rattle.std.proofs.Common.{ℕ, ◌≡◌, ◌-◌, ◌<◌, ◌≤◌, List, length, Some, slice_get}
use Rattle.v_frame.specs.Prelude.{KeepsBorder, table_of}
use Rattle.v_frame_ops.specs.Prelude.{mapped}
use Rattle.example_callers.proofs.filter.invert_by_rows.Given as goal

abbrev pub invariant-loop-y : goal.invariant-loop-y
invariant-loop-y l = record {
  count : length (table_of l.plane) ≡ length (table_of l.fn.plane);
  inverted : (k : ℕ) (row : List ℕ) → k < l.y → slice_get (table_of l.fn.plane) k ≡ Some row
      → slice_get (table_of l.plane) k ≡ Some (mapped (λ pixel. 255 - pixel) row);
  others : (k : ℕ) → l.y ≤ k → slice_get (table_of l.plane) k ≡ slice_get (table_of l.fn.plane) k;
  border : KeepsBorder l.fn.plane l.plane;
}
