-- The rows processed so far are summed, with the same number of pixels of each picture.
use Rattle.std.proofs.Common.{◌≡◌, ◌*◌, length}
use Rattle.v_frame.specs.Prelude.{rectangle, row_major}
use Rattle.v_frame_measures.specs.PixelSums.{sums_of_rectangle, AreSumsOver}
use Rattle.v_frame_measures.proofs.similarity.sums.sums_of_columns.Given as goal

abbrev pub invariant-loop-row : goal.invariant-loop-row
invariant-loop-row g l = record {
  so_far : l.sums ≡ sums_of_rectangle g.T.Pixel.form.value l.x l.y 4 l.row l.a l.b;
  first : length (row_major (rectangle l.x l.y 4 l.row l.a)) ≡ 4 * l.row;
  second : length (row_major (rectangle l.x l.y 4 l.row l.b)) ≡ 4 * l.row;
  bound : AreSumsOver (4 * l.row) l.sums;
}
