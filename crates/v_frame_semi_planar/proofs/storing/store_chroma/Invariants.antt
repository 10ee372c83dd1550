-- The rows so far, interleaved, are those that the bytes encode, and the borders are unchanged.
use Rattle.std.proofs.Common.{◌≡◌, ◌*◌, length}
use Rattle.v_frame.specs.Prelude.{KeepsBorder, table_of}
use Rattle.v_frame_semi_planar.proofs.Interleaving.{ApartBelow}
use Rattle.v_frame_semi_planar.proofs.Stored.{stored_rows}
use Rattle.v_frame_semi_planar.proofs.storing.store_chroma.Given as goal

abbrev pub invariant-loop-y : goal.invariant-loop-y
invariant-loop-y g l = record {
  count : length (table_of l.first) ≡ l.fn.first.geometry.height;
  second_count : length (table_of l.second) ≡ l.fn.first.geometry.height;
  rows : ApartBelow (stored_rows g.T.Pixel.form l.unused (2 * l.fn.first.geometry.width) l.row_bytes
      l.fn.first.geometry.height l.bytes) (table_of l.first) (table_of l.second) l.y;
  border : KeepsBorder l.fn.first l.first;
  second_border : KeepsBorder l.fn.second l.second;
}
