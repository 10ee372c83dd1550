-- Rows with a stride in a list, seen as a table. Rectangles of them and the visible rows of a plane are such rows
-- too.
use Rattle.std.proofs.Common.{ℕ, suc, ◌≡◌, ◌+◌, ◌-◌, ◌*◌, ◌<◌, ◌≤◌, All, List, length, map, take, drop, Some, slice_get}
use Rattle.std.proofs.Common.{sym, ◌∙◌, ap, arith, length-take-le, length-drop}
use Rattle.std.proofs.Math.Nat.{mul-le-mul_right}
use Rattle.std.proofs.lemmas.List.{length-map, drop-drop, take-take}
use Rattle.std.proofs.lemmas.Option.{get_or_from_slice_get}
use Rattle.v_frame_raster.specs.Geometry.{Geometry, IsGeometry, stride_of, alloc_size_of, origin_of}
use Rattle.v_frame_raster.specs.Table.{Table, width_of, height_of, cut_rows, rectangle}
use Rattle.v_frame_raster.proofs.Plans.{row_start, place_of_row, row_within}
use Rattle.v_frame_raster.proofs.tables.Lists.{same_by_slice_get, slice_get-take, slice_get-drop, slice_get-map}
use Rattle.v_frame_raster.specs.Raster.{Raster, raster, table_of}
use Rattle.v_frame_raster.specs.StridedRows.{strided_rows, RowsFit, IsInsideTable}
use Rattle.v_frame_raster.proofs.tables.CutRows.{length-cut_rows, slice_get-cut_rows}
use Rattle.v_frame_raster.proofs.tables.Sizes.{width_of_first}
use Rattle.v_frame_raster.proofs.tables.Pictures.{shown_row, length-shown}
use Rattle.v_frame_raster.proofs.tables.Regions.{taken_inside}

module _ {T : Type 0} (width height stride : ℕ) (xs : List T) where
  pub height_of_rows : height_of (strided_rows width height stride xs) ≡ height
  height_of_rows = length-map (cut_rows stride height xs) (take width) ∙ length-cut_rows stride height xs

  pub strided_row : (y : ℕ) → width ≤ stride → y < height
      → slice_get (strided_rows width height stride xs) y ≡ Some (take width (drop (stride * y) xs))
  strided_row y apart h =
      slice_get-map (take width) (cut_rows stride height xs) y _ (slice_get-cut_rows stride height xs y h)
      ∙ ap Some (take-take width stride (drop (stride * y) xs) apart)

-- A table consists of rows that fit.
pub record AreRows {T : Type 0} (width height stride : ℕ) (xs : List T) (rows : Table T) : Type 0 where
  pub is : strided_rows width height stride xs ≡ rows
  pub fit : RowsFit width height stride (length xs)

-- Facts about such a table.
module _ {T : Type 0} {width height stride : ℕ} {xs : List T} {rows : Table T}
    (known : AreRows width height stride xs rows) where
  pub height_is : height_of rows ≡ height
  height_is = rw (← known.is) (height_of_rows width height stride xs)

  -- A row is this part of the list, and ends within the list.
  pub row_is : (y : ℕ) → y < height_of rows → slice_get rows y ≡ Some (take width (drop (stride * y) xs))
  row_is y h = rw (← known.is) (strided_row width height stride xs y known.fit.apart (omega (arith, height_is)))

  pub row_ends : (y : ℕ) → y < height_of rows → stride * y + width ≤ length xs
  row_ends y h =
      let low : y ≤ height - 1 = omega (arith, height_is) in
      omega (arith, mul-le-mul_right stride low, known.fit.within)

  pub row_length : (y : ℕ) → y < height_of rows → length (take width (drop (stride * y) xs)) ≡ width
  row_length y h =
      length-take-le width (drop (stride * y) xs) (omega (arith, length-drop (stride * y) xs, row_ends y h))

  pub width_is : width_of rows ≡ width
  width_is =
      let high : 0 < height_of rows = omega (arith, height_is, known.fit.high) in
      width_of_first rows _ (row_is 0 high) ∙ row_length 0 high

  pub rows_are_wide : All (λ row. length row ≡ width) rows
  rows_are_wide = λ k d h. ap length (get_or_from_slice_get rows k _ d (row_is k h)) ∙ row_length k h

  -- There are therefore at most as many pixels as entries.
  pub pixels_fit : height * width ≤ length xs
  pixels_fit =
      let others = height - 1 in
      let e : height ≡ suc others = omega (arith, known.fit.high) in
      rw e (omega (arith, mul-le-mul_right others known.fit.apart, known.fit.within))

  -- A rectangle of the rows consists of rows with the same stride, beginning at its upper left corner.
  module _ {x y w h : ℕ} (inside : IsInsideTable rows x y w h) where
    pub part_begins : stride * y + x ≤ length xs
    part_begins = omega (arith, row_ends y (omega (arith, inside.down, inside.high)), inside.across, width_is)

    pub part_fits : RowsFit w h stride (length (drop (stride * y + x) xs))
    part_fits =
        let low : y + (h - 1) < height_of rows = omega (arith, inside.down, inside.high) in
        let apart : stride * (y + (h - 1)) ≡ stride * y + stride * (h - 1) = omega arith in
        record {
          wide = inside.wide;
          high = inside.high;
          apart = omega (arith, known.fit.apart, inside.across, width_is);
          within =
              omega (
                arith,
                row_ends (y + (h - 1)) low,
                apart,
                inside.across,
                width_is,
                length-drop (stride * y + x) xs,
              );
        }

    pub part_is : strided_rows w h stride (drop (stride * y + x) xs) ≡ rectangle x y w h rows
    part_is =
        let part = strided_rows w h stride (drop (stride * y + x) xs) in
        let cut : List T → List T = λ row. take w (drop x row) in
        let below = take h (drop y rows) in
        let high : length below ≡ h = length-take-le h (drop y rows) (omega (arith, inside.down, length-drop y rows)) in
        let count = height_of_rows w h stride (drop (stride * y + x) xs) in
        same_by_slice_get part (map cut below) (count ∙ sym (length-map below cut ∙ high)) (λ k k_low.
        let low : k < h = omega (arith, k_low, count) in
        let row : slice_get below k ≡ Some (take width (drop (stride * (y + k)) xs)) =
        slice_get-take h (drop y rows) k low ∙ slice_get-drop y rows k
        ∙ row_is (y + k) (omega (arith, low, inside.down)) in
        let at : stride * y + x + stride * k ≡ stride * (y + k) + x = omega arith in
        strided_row w h stride (drop (stride * y + x) xs) k part_fits.apart low
        ∙ ap (λ r. Some (take w r))
        (drop-drop (stride * k) (stride * y + x) xs ∙ ap (λ n. drop n xs) at ∙ sym (drop-drop x (stride * (y + k)) xs))
        ∙ ap Some (sym (taken_inside (drop (stride * (y + k)) xs) x w width (omega (arith, inside.across, width_is))))
        ∙ sym (slice_get-map cut below k _ row))

-- The visible rows of a plane.
module _ {T : Type 0} (g : Geometry) (xs : List T) (origin stride : ℕ) (origin_at : origin ≡ origin_of g)
    (stride_is : stride ≡ stride_of g)
    (valid : IsGeometry g) (whole : length xs ≡ alloc_size_of g) where
  high : 0 < g.height
  high = valid.high

  pub visible_begin : origin ≤ length xs
  visible_begin = omega (arith, place_of_row g 0 high, row_within g 0 high)

  starts : (y : ℕ) → origin + stride * y ≡ row_start g y
  starts y = omega (arith, place_of_row g y high, ap (λ k. k * y) stride_is)

  pub visible_fit : RowsFit g.width g.height stride (length (drop origin xs))
  visible_fit = record {
    wide = valid.wide;
    high = high;
    apart = omega arith;
    within = omega (arith, starts (g.height - 1), row_within g (g.height - 1) (omega arith), length-drop origin xs);
  }

  pub visible_are : strided_rows g.width g.height stride (drop origin xs) ≡ table_of (raster g xs)
  visible_are =
      let p : Raster T = raster g xs in
      let rows = strided_rows g.width g.height stride (drop origin xs) in
      let count = height_of_rows g.width g.height stride (drop origin xs) in
      same_by_slice_get rows (table_of p) (count ∙ sym (length-shown p)) (λ y h.
      let low : y < g.height = omega (arith, h, count) in
      strided_row g.width g.height stride (drop origin xs) y visible_fit.apart low
      ∙ ap (λ r. Some (take g.width r)) (drop-drop (stride * y) origin xs ∙ ap (λ n. drop n xs) (starts y))
      ∙ sym (shown_row p y low))
