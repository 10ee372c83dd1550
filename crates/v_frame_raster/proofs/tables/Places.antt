-- The entries at the indices of pixels. Inside the visible rectangle, they are the pixels of the table.
use Rattle.std.proofs.Common.{ℕ, ◌≡◌, ◌+◌, ◌-◌, ◌*◌, ◌<◌, ◌≤◌, ◌↔◌, IsNone, List, length, take, drop, Option, Some}
use Rattle.std.proofs.Common.{None, slice_get, option_copied, Bor, All, inl, inr, length-take-le, length-drop, refl}
use Rattle.std.proofs.Common.{sym, ◌∙◌, ap, min, arith}
use Rattle.std.proofs.lemmas.Bool.{cases_lt}
use Rattle.std.proofs.lemmas.Option.{slice_get_past, slice_get_read, slice_get_cases, slice_get_within}
use Rattle.std.proofs.lemmas.Option.{get_or_from_slice_get}
use Rattle.std.specs.Slice.{IsGetResult}
use Rattle.v_frame_raster.specs.Geometry.{Geometry, stride_of, alloc_size_of, usize_max, place_of}
use Rattle.v_frame_raster.specs.Raster.{Raster, table_of}
use Rattle.v_frame_raster.specs.RasterLaws.{HoldsRows}
use Rattle.v_frame_raster.specs.Table.{pixel_at}
use Rattle.v_frame_raster.proofs.tables.Lists.{slice_get-take, slice_get-drop}
use Rattle.v_frame_raster.proofs.Plans.{row_start, place_of_row, row_within}
use Rattle.v_frame_raster.proofs.tables.Pictures.{shown_row, length-shown}

-- A pixel of the rectangle lies in the buffer.
pub place_within : (g : Geometry) (x y : ℕ) → x < g.width → y < g.height → place_of g x y < alloc_size_of g
place_within g x y hx hy =
    let high : 0 < g.height = omega arith in
    omega (arith, place_of_row g y high, row_within g y hy)

-- If a saturated index reads an entry, the exact index reads the same entry.
pub counted_get : {X : Type 0} (xs : List X) (place : ℕ) → length xs ≤ usize_max
    → slice_get xs (min place usize_max) ≡ slice_get xs place
counted_get xs place fits =
    elim (cases_lt usize_max place) [
      | inl past ↦ slice_get_past xs _ (omega arith) ∙ sym (slice_get_past xs place (omega arith))
      | inr within ↦ let e : min place usize_max ≡ place = omega arith in rw e
    ]

-- The result of `get`, copied.
pub copied_get : {X : Type 0} (xs : List X) (i : ℕ) (r : Option (Bor X)) → IsGetResult xs i i r
    → option_copied r ≡ slice_get xs i
copied_get xs i None h = sym (slice_get_past xs i h.3)
copied_get xs i (Some x) h = sym (slice_get_read xs (length xs) i x.now refl h.3.0 h.1)

-- No entry is read if and only if the index is past the end.
pub none_past_end : {X : Type 0} (xs : List X) (place : ℕ) (r : Option X) → r ≡ slice_get xs place
    → IsNone r ↔ (length xs ≤ place)
none_past_end xs place r e = rw e (elim (slice_get_cases xs place).1 [
  | inl here ↦ rw here.2 (λ no. cc, λ past. absurd (omega arith))
  | inr end ↦ rw end.1 (λ _. end.0, λ _. refl)
])

module _ {T : Type 0} where
  -- The part of the buffer that the code reads for a row is this row of the table.
  pub shown_slice : (p : Raster T) (y start width : ℕ) (buffer : List T) → y < p.geometry.height
      → start ≡ place_of p.geometry 0 y → width ≡ p.geometry.width
      → buffer ≡ p.buffer
      → Some (take (start + width - start) (drop start buffer)) ≡ slice_get (table_of p) y
  shown_slice p y start width buffer h s w b =
      let high : 0 < p.geometry.height = omega arith in
      let n : start + width - start ≡ p.geometry.width = omega arith in
      let at : start ≡ row_start p.geometry y = s ∙ place_of_row p.geometry y high in
      rw (n, at, b) (sym (shown_row p y h))

  -- Each row of the table is a part of the buffer.
  pub rows_are_parts : (p : Raster T) → HoldsRows p
  unfolding row_start
  rows_are_parts p y h =
      let at : row_start p.geometry y
      ≡ (p.geometry.pad_top + y) * stride_of p.geometry + p.geometry.pad_left = omega arith in
      shown_row p y h ∙ ap (λ k. Some (take p.geometry.width (drop k p.buffer))) at

  -- There is no row below the table.
  pub no_row_below : (p : Raster T) (y : ℕ) → p.geometry.height ≤ y → slice_get (table_of p) y ≡ None
  no_row_below p y h = slice_get_past (table_of p) y (omega (arith, length-shown p))

  -- Inside the rectangle, the entry at the index is the pixel of the table.
  pub pixel_inside : (p : Raster T) (x y : ℕ) → x < p.geometry.width → y < p.geometry.height →
      slice_get p.buffer (place_of p.geometry x y) ≡ pixel_at (table_of p) x y
  pixel_inside p x y hx hy =
      let g = p.geometry in
      let high : 0 < g.height = omega arith in
      let at : place_of g x y ≡ row_start g y + x = omega (arith, place_of_row g y high) in
      rw (at, shown_row p y hy, slice_get-take g.width (drop (row_start g y) p.buffer) x hx)
      (sym (slice_get-drop (row_start g y) p.buffer x))

  -- Every row of the table has the width of the plane.
  pub rows_are_wide : (p : Raster T) → length p.buffer ≡ alloc_size_of p.geometry
      → All (λ row. length row ≡ p.geometry.width) (table_of p)
  rows_are_wide p whole = λ k d h.
      let g = p.geometry in
      let high : k < g.height = omega (arith, length-shown p) in
      ap length (get_or_from_slice_get (table_of p) k _ d (shown_row p k high)) ∙
      length-take-le g.width (drop (row_start g k) p.buffer)
      (omega (arith, length-drop (row_start g k) p.buffer, row_within g k high))

  module _ (p : Raster T) (whole : length p.buffer ≡ alloc_size_of p.geometry) where
    -- The lent part is the row of the table.
    pub row_at : (y start width : ℕ) (lent : List T) → y < p.geometry.height → start ≡ place_of p.geometry 0 y
        → width ≡ p.geometry.width
        → lent ≡ take width (drop start p.buffer) → slice_get (table_of p) y ≡ Some lent
    row_at y start width lent high at wide is =
        let g = p.geometry in
        let place : start ≡ row_start g y = at ∙ place_of_row g y (omega (arith, high)) in
        rw (is, wide, place) (shown_row p y high)

    pub row_wide : (y : ℕ) (lent : List T) → slice_get (table_of p) y ≡ Some lent → length lent ≡ p.geometry.width
    row_wide y lent is = sym (ap length (get_or_from_slice_get (table_of p) y lent lent is)) ∙
        rows_are_wide p whole y lent (slice_get_within (table_of p) y lent is)

  -- Past the width of its rows and below them, a table has no pixel.
  pub no_pixel_beside : (rows : List (List T)) (width x y : ℕ) → All (λ row. length row ≡ width) rows → width ≤ x
      → pixel_at rows x y ≡ None
  no_pixel_beside rows width x y wide h =
      elim (slice_get_cases rows y).1 [
        | inl row ↦ rw row.2 (slice_get_past row.0 x (omega (arith, wide y row.0 row.1, ap length row.3)))
        | inr none ↦ rw none.1 refl
      ]

  pub no_pixel_below : (rows : List (List T)) (x y : ℕ) → length rows ≤ y → pixel_at rows x y ≡ None
  no_pixel_below rows x y h = rw (slice_get_past rows y h) refl
