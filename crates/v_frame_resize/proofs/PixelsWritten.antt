-- Loops over the rows of a buffer that write the rows pixel by pixel.
use Rattle.std.proofs.Common.{ℕ, ◌≡◌, ◌+◌, ◌-◌, ◌*◌, ◌<◌, List, length, take, drop, Option, slice_get, slice_set}
use Rattle.std.proofs.Common.{option_and_then}
use Rattle.std.proofs.Common.{◌∙◌, ap, arith, length-take-le, length-drop}
use Rattle.v_frame_raster.specs.Table.{pixel_at}
use Rattle.v_frame_raster.specs.StridedRows.{strided_rows, KeepsRest, RowsFit}
use Rattle.v_frame_raster.proofs.tables.Lists.{others_are_read, set_is_read}
use Rattle.v_frame_raster.proofs.tables.Strides.{height_of_rows}
use Rattle.v_frame_raster.proofs.tables.StridedWrites.{row_ends, row_put, rest_put, rest_kept, rest_same}
use borrow.Author.Count.{below_more}
use borrow.Rule.Slice.PartMut.{put_mid}

-- The rows above row `y` have the expected pixels, and everything else is unchanged.
pub record PixelsBelow {T : Type 0} (at : ℕ → ℕ → Option T) (width height stride : ℕ) (old now : List T) (y : ℕ)
    : Type 0 where
  pub pixels : (k : ℕ) → k < y → (x : ℕ) → x < width → pixel_at (strided_rows width height stride now) x k ≡ at x k
  pub rest : KeepsRest width height stride old now

module _ {T : Type 0} (at : ℕ → ℕ → Option T) (width height stride : ℕ) (old : List T) where
  pub no_pixels : PixelsBelow at width height stride old old 0
  no_pixels = record { pixels = λ k h. absurd (omega arith); rest = rest_same width height stride old }

  -- The loop step: one more row.
  pub one_more_row : (now row : List T) (y : ℕ) → RowsFit width height stride (length old) → y < height
      → length now ≡ length old
      → length row ≡ length (take (stride * y + width - stride * y) (drop (stride * y) now))
      → ((x : ℕ) → x < width → slice_get row x ≡ at x y) → PixelsBelow at width height stride old now y
      → PixelsBelow at width height stride old (put_mid (stride * y) (stride * y + width - stride * y) now row) (y + 1)
  one_more_row now row y fit high same long made so_far =
      let start = stride * y in
      let fits : RowsFit width height stride (length now) = rw same fit in
      let ends = row_ends width height stride (length now) y fits high in
      let cut : start + width - start ≡ width = omega arith in
      let part = length-take-le width (drop start now) (omega (arith, length-drop start now, ends)) in
      let wide : length row ≡ width = rw (cut, part) at long in
      let table = strided_rows width height stride now in
      let written = row_put width height stride now row y fits high wide in
      rw cut (record {
        pixels =
            rw written (below_more
            (λ k. (x : ℕ) → x < width → pixel_at (slice_set table y row) x k ≡ at x k) y
            (λ k h x across. ap (option_and_then (λ r. slice_get r x)) (others_are_read table y k row (omega arith))
            ∙ so_far.pixels k h x across)
            (λ x across. ap (option_and_then (λ r. slice_get r x))
            (set_is_read table y row (omega (arith, height_of_rows width height stride now))) ∙ made x across));
        rest = rest_kept width height stride old now _ so_far.rest (rest_put width height stride now row y fits high
            wide);
      })
