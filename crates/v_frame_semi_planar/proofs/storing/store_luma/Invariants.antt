-- The rows so far are those that the bytes encode, and the border is unchanged.
use Rattle.std.proofs.Common.{ℕ, ◌≡◌, ◌<◌, length, slice_get}
use Rattle.v_frame.specs.Prelude.{KeepsBorder, table_of}
use Rattle.v_frame_semi_planar.proofs.Stored.{stored_rows}
use Rattle.v_frame_semi_planar.proofs.storing.store_luma.Given as goal

abbrev pub invariant-loop-y : goal.invariant-loop-y
invariant-loop-y g l = record {
  count : length (table_of l.plane) ≡ l.fn.plane.geometry.height;
  rows : (k : ℕ) → k < l.y → slice_get (table_of l.plane) k ≡ slice_get (stored_rows g.T.Pixel.form l.unused
      l.fn.plane.geometry.width l.row_bytes l.fn.plane.geometry.height l.bytes) k;
  border : KeepsBorder l.fn.plane l.plane;
}
