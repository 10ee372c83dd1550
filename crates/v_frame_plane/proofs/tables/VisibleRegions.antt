-- The entries of a buffer from the first pixel of a rectangle on are written as rows with a stride. The rectangle
-- then shows these rows, and all other pixels and the border are unchanged.
use Rattle.std.proofs.Common.{ℕ, ◌≡◌, ◌≢◌, ◌+◌, ◌-◌, ◌*◌, ◌<◌, ◌≤◌, ◌⊎◌, List, ◌++◌, length, take, drop, Some, slice_get}
use Rattle.std.proofs.Common.{option_and_then, inl, inr, refl, sym, ◌∙◌, ap, arith, length-take-le, length-drop}
use Rattle.std.proofs.Common.{length-append, ⊎_elim}
use Rattle.std.proofs.lemmas.Bool.{cases_lt}
use Rattle.v_frame_buffer.specs.Part.{with_part}
use Rattle.v_frame_raster.specs.Geometry.{Geometry, IsGeometry, IsInside, Border, Visible, alloc_size_of, cutting_plan}
use Rattle.v_frame_raster.specs.Geometry.{mark_at, origin_of, place_of, region_geometry, stride_of}
use Rattle.v_frame_raster.specs.Raster.{Raster, raster, table_of, border_of, KeepsBorder}
use Rattle.v_frame_raster.specs.StridedRows.{strided_rows, KeepsRest, RowsFit}
use Rattle.v_frame_raster.specs.Table.{pixel_at}
use Rattle.v_frame_raster.proofs.Plans.{origin_by_stride}
use Rattle.v_frame_raster.proofs.tables.Entries.{made_of_entries}
use Rattle.v_frame_raster.proofs.tables.Lists.{slice_get-take, slice_get-drop}
use Rattle.v_frame_raster.proofs.tables.OwnPlaces.{has_places}
use Rattle.v_frame_raster.proofs.tables.Parts.{slice_get-front, slice_get-back}
use Rattle.v_frame_raster.proofs.tables.Places.{pixel_inside, rows_are_wide, no_pixel_beside, no_pixel_below}
use Rattle.v_frame_raster.proofs.tables.Pictures.{length-shown}
use Rattle.v_frame_raster.proofs.tables.Strides.{strided_row, visible_begin, visible_fit}
use Rattle.v_frame_plane.specs.Visible.{with_visible_from, WritesEachRectangle}
use Rattle.v_frame_plane.proofs.tables.VisibleWrites.{with_rest}

-- A pixel of rows with a stride is an entry of the list.
entry_of : {T : Type 0} (w h stride : ℕ) (xs : List T) (i j : ℕ) → w ≤ stride → i < w → j < h
    → pixel_at (strided_rows w h stride xs) i j ≡ slice_get xs (stride * j + i)
entry_of w h stride xs i j apart across down =
    ap (option_and_then (λ row. slice_get row i)) (strided_row w h stride xs j apart down)
    ∙ slice_get-take w (drop (stride * j) xs) i across ∙ slice_get-drop (stride * j) xs i

module _ {T : Type 0} (p : Raster T) (x y w h stride : ℕ) (inside : IsInside p.geometry x y w h)
    (region_valid : IsGeometry (region_geometry p.geometry x y w h))
    (size : alloc_size_of (region_geometry p.geometry x y w h) ≡ alloc_size_of p.geometry)
    (whole : length p.buffer ≡ alloc_size_of p.geometry)
    (region_stride : stride ≡ stride_of (region_geometry p.geometry x y w h)) where
  abbrev region : Geometry
  region = region_geometry p.geometry x y w h

  abbrev origin : ℕ
  origin = origin_of (region_geometry p.geometry x y w h)

  abbrev lent : List T
  lent = drop (origin_of (region_geometry p.geometry x y w h)) p.buffer

  region_whole : length p.buffer ≡ alloc_size_of region
  region_whole = whole ∙ sym size

  pub region_fit : RowsFit w h stride (length (drop (origin_of (region_geometry p.geometry x y w h)) p.buffer))
  region_fit = visible_fit region p.buffer origin stride refl region_stride region_valid region_whole

  begins : origin ≤ length p.buffer
  begins = visible_begin region p.buffer origin stride refl region_stride region_valid region_whole

  stride_same : stride ≡ stride_of p.geometry
  stride_same = region_stride ∙ omega (arith, inside.across)

  valid : IsGeometry p.geometry
  valid = record {
    wide = omega (arith, inside.wide, inside.across);
    high = omega (arith, inside.high, inside.down);
    sampled_x = region_valid.sampled_x;
    sampled_y = region_valid.sampled_y;
    stride_fits = omega (arith, region_valid.stride_fits, inside.across);
  }

  apart : w ≤ stride
  apart = omega (arith, stride_same, inside.across)

  -- A pixel of the rectangle has an index in the plane.
  place_is : (i j : ℕ) → origin + (stride * j + i) ≡ place_of p.geometry (x + i) (y + j)
  place_is i j =
      let g = p.geometry in
      let here = (origin_by_stride g stride stride_same valid).0 in
      let there = (origin_by_stride region stride region_stride region_valid).0 in
      let in_strides : origin_of g + (x + i + (y + j) * stride) ≡ place_of g (x + i) (y + j) =
      ap (λ n. origin_of g + (x + i + (y + j) * n)) stride_same in
      omega (arith, here, there) ∙ in_strides

  -- The rectangle therefore begins at its first pixel.
  pub region_origin : origin_of (region_geometry p.geometry x y w h) ≡ place_of p.geometry x y
  region_origin =
      let first = place_is 0 0 in
      omega (arith, first)

  -- The pixels before the write.
  pub region_held : (i j : ℕ) → i < w → j < h
      → pixel_at (strided_rows w h stride (drop (origin_of (region_geometry p.geometry x y w h)) p.buffer)) i j
      ≡ pixel_at (table_of p) (x + i) (y + j)
  region_held i j across down =
      entry_of w h stride lent i j apart across down ∙ slice_get-drop origin p.buffer (stride * j + i)
      ∙ ap (slice_get p.buffer) (place_is i j)
      ∙ pixel_inside p (x + i) (y + j) (omega (arith, across, inside.across)) (omega (arith, down, inside.down))

  module _ (new : List T) (rest : KeepsRest w h stride (drop (origin_of (region_geometry p.geometry x y w h)) p.buffer) new)
    where
      abbrev written : List T
      written = take (origin_of (region_geometry p.geometry x y w h)) p.buffer ++ new

      front_long : length (take origin p.buffer) ≡ origin
      front_long = length-take-le origin p.buffer begins

      as_long : length written ≡ length p.buffer
      as_long =
          length-append (take origin p.buffer) new
          ∙ omega (arith, front_long, rest.count, length-drop origin p.buffer, begins)

      again : with_part p.buffer (place_of p.geometry x y) new ≡ written
      again = rw (← region_origin) (with_rest p.buffer new origin as_long rest.count)

      -- An index that does not belong to the rectangle.
      kept_at : (place : ℕ) → ((i j : ℕ) → i < w → j < h → place ≢ place_of p.geometry (x + i) (y + j))
          → slice_get written place ≡ slice_get p.buffer place
      kept_at place outside = elim (cases_lt place origin) [
        | inl above ↦ slice_get-front (take origin p.buffer) new place (omega (arith, front_long))
            ∙ slice_get-take origin p.buffer place above
        | inr from ↦
            let k : ℕ = place - origin in
            let there : place ≡ length (take origin p.buffer) + k = omega (arith, front_long) in
            let back_there : origin + k ≡ place = omega arith in
            let same = rest.others k (λ i j across down e.
            outside i j across down (omega (arith, e, place_is i j))) in
            ap (slice_get written) there ∙ slice_get-back (take origin p.buffer) new k ∙ same
            ∙ slice_get-drop origin p.buffer k ∙ ap (slice_get p.buffer) back_there
      ]

      -- The pixels of the rectangle are those of the rows.
      shown : (i j : ℕ) → i < w → j < h
          → pixel_at (table_of (raster p.geometry written)) (x + i) (y + j)
          ≡ pixel_at (strided_rows w h stride new) i j
      shown i j across down =
          let there : place_of p.geometry (x + i) (y + j) ≡ length (take origin p.buffer) + (stride * j + i) =
          omega (arith, front_long, place_is i j) in
          sym (pixel_inside (raster p.geometry written) (x + i) (y + j) (omega (arith, across, inside.across))
          (omega (arith, down, inside.down)))
          ∙ ap (slice_get written) there ∙ slice_get-back (take origin p.buffer) new (stride * j + i)
          ∙ sym (entry_of w h stride new i j apart across down)

      -- All other pixels are unchanged.
      beside : (i j : ℕ) → ((i < x) ⊎ (x + w ≤ i)) ⊎ ((j < y) ⊎ (y + h ≤ j))
          → pixel_at (table_of (raster p.geometry written)) i j ≡ pixel_at (table_of p) i j
      beside i j outside =
          let g = p.geometry in
          let q : Raster T = raster g written in
          elim (cases_lt i g.width) [
            | inr past ↦
                no_pixel_beside (table_of q) g.width i j (rows_are_wide q (as_long ∙ whole)) (omega arith)
                ∙ sym (no_pixel_beside (table_of p) g.width i j (rows_are_wide p whole) (omega arith))
            | inl across ↦ elim (cases_lt j g.height) [
              | inr below ↦
                  no_pixel_below (table_of q) i j (omega (arith, length-shown q))
                  ∙ sym (no_pixel_below (table_of p) i j (omega (arith, length-shown p)))
              | inl down ↦
                  sym (pixel_inside q i j across down)
                  ∙ kept_at (place_of g i j) (λ i' j' across' down' e.
                  let same = (has_places g).apart i j (x + i') (y + j') across down
                  (omega (arith, across', inside.across)) (omega (arith, down', inside.down)) e in
                  ⊎_elim (⊎_elim (λ o. omega (arith, same.0)) (λ o. omega (arith, same.0)))
                  (⊎_elim (λ o. omega (arith, same.1)) (λ o. omega (arith, same.1))) outside)
                  ∙ pixel_inside p i j across down
            ]
          ]

      kept : border_of (raster p.geometry written) ≡ border_of p
      kept =
          let g = p.geometry in
          (made_of_entries (raster g written) p refl).border (λ place is.
          kept_at place (λ i j across down e.
          let visible = (has_places g).visible (x + i) (y + j) (omega (arith, across, inside.across))
          (omega (arith, down, inside.down)) in
          let no : Some Border ≡ Some Visible = sym is ∙ ap (mark_at (cutting_plan g)) e ∙ visible in
          cc))

  pub writes_each_rectangle : WritesEachRectangle p x y w h stride
      (drop (origin_of (region_geometry p.geometry x y w h)) p.buffer)
  unfolding with_visible_from
  writes_each_rectangle = λ new rest.
      rw (again new rest) (record {
        inside = shown new rest;
        beside = beside new rest;
        border = ap (λ pieces. (p.geometry, pieces)) (kept new rest);
      })
