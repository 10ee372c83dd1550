-- The rows so far have the pixels, and the other rows and the border are unchanged.
use Rattle.std.proofs.Common.{ℕ, ◌≡◌, ◌<◌, ◌≤◌, ◌⊎◌, List, Some, slice_get}
use Rattle.v_frame.specs.Prelude.{KeepsBorder, table_of}
use Rattle.example_callers.specs.Rectangles.{with_pixels}
use Rattle.example_callers.proofs.rectangles.fill_rectangle.Given as goal

abbrev pub invariant-loop-row : goal.invariant-loop-row
invariant-loop-row g l = record {
  inside : (k : ℕ) (row : List g.row.T.Denot) → l.y ≤ k → k < l.row → slice_get (table_of l.fn.plane) k ≡ Some row →
      slice_get (table_of l.plane) k ≡ Some (with_pixels row l.x l.pixels);
  outside : (k : ℕ) → (k < l.y) ⊎ (l.row ≤ k) → slice_get (table_of l.plane) k ≡ slice_get (table_of l.fn.plane) k;
  border : KeepsBorder l.fn.plane l.plane;
}
