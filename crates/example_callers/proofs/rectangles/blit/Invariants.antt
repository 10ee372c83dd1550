-- The rows so far have the pixels of the source, and the other rows and the border are unchanged.
use Rattle.std.proofs.Common.{ℕ, ◌≡◌, ◌+◌, ◌<◌, ◌≤◌, ◌⊎◌, List, Some, take, drop, slice_get}
use Rattle.v_frame.specs.Prelude.{KeepsBorder, table_of}
use Rattle.example_callers.specs.Rectangles.{with_pixels}
use Rattle.example_callers.proofs.rectangles.blit.Given as goal

abbrev pub invariant-loop-k : goal.invariant-loop-k
invariant-loop-k g l = record {
  inside : (k : ℕ) (row pixels : List g.row.T.Denot) → k < l.k → slice_get (table_of l.fn.plane) (l.y + k) ≡ Some row →
      slice_get (table_of l.source) (l.from_y + k) ≡ Some pixels
      → slice_get (table_of l.plane) (l.y + k) ≡ Some (with_pixels row l.x (take l.width (drop l.from_x pixels)));
  outside : (k : ℕ) → (k < l.y) ⊎ (l.y + l.k ≤ k) → slice_get (table_of l.plane) k ≡ slice_get (table_of l.fn.plane) k;
  border : KeepsBorder l.fn.plane l.plane;
}
