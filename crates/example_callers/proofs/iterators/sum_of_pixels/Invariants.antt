-- The sum so far plus the sum of the remaining pixels is the whole sum, and no sum exceeds the maximum for this
-- number of pixels.
use Rattle.std.proofs.Common.{◌≡◌, ◌+◌, ◌*◌, ◌^◌, ◌≤◌, length, sum_by}
use Rattle.v_frame.specs.Prelude.{table_of, row_major}
use Rattle.example_callers.proofs.iterators.sum_of_pixels.Given as goal

abbrev pub invariant-loop-pixel : goal.invariant-loop-pixel
invariant-loop-pixel g l = record {
  so_far : l.sum + sum_by g.T.Pixel.form.value l.pixel-iterator ≡ sum_by g.T.Pixel.form.value
      (row_major (table_of l.plane));
  bound : l.sum + 65535 * length l.pixel-iterator ≤ 65535 * 2 ^ 63;
}
