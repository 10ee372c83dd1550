-- Rectangles of a table: two planes over the same buffer, of which one shows a part of the other.
use Rattle.std.proofs.Common.{ℕ, ◌≡◌, ◌+◌, ◌<◌, ◌≤◌, List, length, map, take, drop, Some, slice_get, refl, sym, ◌∙◌}
use Rattle.std.proofs.Common.{arith, length-take-le, length-drop}
use Rattle.std.specs.Prelude.{ℤ, unsigned_abs}
use Rattle.std.proofs.lemmas.List.{length-map, drop-drop, drop-take, take-take}
use Rattle.v_frame_raster.specs.Geometry.{Geometry, stride_of, IsInside, region_geometry, whole_geometry}
use Rattle.v_frame_raster.specs.Geometry.{buffer_column, buffer_region, buffer_row, IsInBuffer}
use Rattle.v_frame_raster.specs.Table.{rectangle}
use Rattle.v_frame_raster.proofs.Plans.{row_start}
use Rattle.v_frame_raster.proofs.tables.Lists.{same_by_slice_get, slice_get-take, slice_get-drop, slice_get-map}
use Rattle.v_frame_raster.specs.RasterLaws.{ShowsRectangle}
use Rattle.v_frame_raster.specs.Raster.{Raster, raster, table_of, whole_rows}
use Rattle.v_frame_raster.proofs.tables.Pictures.{shown_row, length-shown}

-- The first geometry shows a rectangle, from column x of row y on, of the table that the second shows of the same
-- buffer.
record ShowsPart (part g : Geometry) (x y : ℕ) : Type 0 where
  stride : stride_of part ≡ stride_of g
  left : part.pad_left ≡ g.pad_left + x
  top : part.pad_top ≡ g.pad_top + y
  across : x + part.width ≤ g.width
  down : y + part.height ≤ g.height

-- The indices at which its rows begin.
row_start-part : (part g : Geometry) (x y k : ℕ) → ShowsPart part g x y → row_start part k ≡ row_start g (y + k) + x
unfolding row_start
row_start-part part g x y k is =
    rw (is.stride, is.left, is.top) (omega arith)

module _ {T : Type 0} where
  -- A part of a part.
  pub taken_inside : (xs : List T) (x n m : ℕ) → x + n ≤ m → take n (drop x (take m xs)) ≡ take n (drop x xs)
  taken_inside xs x n m h = rw (← drop-take x n (take m xs), take-take (x + n) m xs h) (drop-take x n xs)

  shows_part : (part g : Geometry) (x y : ℕ) (buffer : List T) → ShowsPart part g x y
      → table_of (raster part buffer) ≡ rectangle x y part.width part.height (table_of (raster g buffer))
  shows_part part g x y buffer is =
      let small : Raster T = raster part buffer in let large : Raster T = raster g buffer in
      let cut : List T → List T = λ row. take part.width (drop x row) in
      let rows = take part.height (drop y (table_of large)) in
      let high : length rows ≡ part.height = length-take-le part.height (drop y (table_of large)) (omega (
        arith,
        is.down,
        length-drop y (table_of large),
        length-shown large,
      )) in
      same_by_slice_get (table_of small) (map cut rows) (length-shown small ∙ sym (length-map rows cut ∙ high)) (λ k h.
      let low : k < part.height = omega (arith, h, length-shown small) in
      let from = row_start g (y + k) in
      let row : slice_get rows k ≡ Some (take g.width (drop from buffer)) = rw (
        slice_get-take part.height (drop y (table_of large)) k low,
        slice_get-drop y (table_of large) k,
      ) (shown_row large (y + k) (omega (arith, low, is.down))) in
      rw (
        shown_row small k low,
        row_start-part part g x y k is,
        slice_get-map cut rows k _ row,
        taken_inside (drop from buffer) x part.width g.width is.across,
        drop-drop x from buffer,
      ) refl)

  -- A region shows the rectangle.
  pub region_shows : (p : Raster T) (x y width height : ℕ) → IsInside p.geometry x y width height
      → table_of (raster (region_geometry p.geometry x y width height) p.buffer)
      ≡ rectangle x y width height (table_of p)
  region_shows p x y width height inside =
      shows_part (region_geometry p.geometry x y width height) p.geometry x y p.buffer
      (record {
        stride = omega (arith, inside.across);
        left = refl;
        top = refl;
        across = inside.across;
        down = inside.down;
      })

  -- Each plane shows a rectangle of its whole buffer.
  pub shows_rectangle : (p : Raster T) → ShowsRectangle p
  shows_rectangle p =
      let g = p.geometry in
      shows_part g (whole_geometry g) g.pad_left g.pad_top p.buffer
      (record { stride = omega arith; left = omega arith; top = omega arith; across = omega arith; down = omega arith })

  -- A region that extends into the border shows its rectangle of all rows of the buffer.
  pub buffer_region_shows : (p : Raster T) (x y : ℤ) (width height : ℕ) → IsInBuffer p.geometry x y width height
      → table_of (raster (buffer_region p.geometry x y width height) p.buffer)
      ≡ rectangle (unsigned_abs (buffer_column p.geometry x)) (unsigned_abs (buffer_row p.geometry y)) width height
      (whole_rows p)
  buffer_region_shows p x y width height is =
      region_shows (raster (whole_geometry p.geometry) p.buffer) (unsigned_abs (buffer_column p.geometry x))
      (unsigned_abs (buffer_row p.geometry y)) width height is.inside
