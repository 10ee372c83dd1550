-- Rows that lie ahead in a slice: the first and the last of them. The rows ahead of a whole buffer are the visible
-- ones.
use Rattle.std.proofs.Common.{ℕ, zero, suc, ◌≡◌, ◌+◌, ◌-◌, ◌*◌, ◌^◌, ◌<◌, ◌≤◌, List, [], ◌∷◌, ◌++◌, length, take, drop}
use Rattle.std.proofs.Common.{Some, slice_get, refl, sym, ◌∙◌, ap}
use Rattle.std.proofs.Common.{arith, All, length-take-le, length-drop, length-append}
use Rattle.std.proofs.lemmas.List.{drop-drop, drop-take, take-take}
use Rattle.std.proofs.Math.Nat.{mul-le-mul_right}
use Rattle.std.proofs.lemmas.List.Elements.{All-nil, All-cons, All-head, All-tail}
use Rattle.v_frame_raster.specs.Geometry.{Geometry, stride_of, alloc_size_of, Fits, origin_of}
use Rattle.v_frame_raster.specs.Raster.{Raster, raster, table_of}
use Rattle.v_frame_raster.specs.Table.{row_major}
use Rattle.v_frame_raster.proofs.tables.Lists.{same_by_slice_get}
use Rattle.v_frame_plane.specs.Cursor.{rows_ahead}
use Rattle.v_frame_plane.specs.RowsLeft.{rows_left}
use Rattle.v_frame_plane.specs.declared.rows_mut.RowsMut.{RowsMut}
use Rattle.v_frame_raster.proofs.Plans.{visible_within, row_start, place_of_row, row_within}
use Rattle.v_frame_raster.proofs.tables.Pictures.{shown_row, length-shown}

module _ {T : Type 0} where
  pub count_of_rows : (start width gap count : ℕ) (xs : List T) → length (rows_ahead start width gap count xs) ≡ count
  count_of_rows start width gap zero xs = refl
  count_of_rows start width gap (suc count) xs = ap suc (count_of_rows gap width gap count (drop width (drop start xs)))

  -- Rows that lie within a slice have their full width.
  pub rows_are_long : (start width gap count : ℕ) (xs : List T) →
      (0 < count → start + count * (width + gap) ≤ length xs + gap) →
      All (λ row. length row ≡ width) (rows_ahead start width gap count xs)
  rows_are_long start width gap zero xs within = All-nil (λ row. length row ≡ width)
  rows_are_long start width gap (suc count) xs within =
      let all : start + suc count * (width + gap) ≤ length xs + gap = within (omega arith) in
      let ahead = drop width (drop start xs) in
      let left : length ahead ≡ length xs - start - width = rw
      (length-drop width (drop start xs), length-drop start xs) refl in
      All-cons (λ row. length row ≡ width) (take width (drop start xs)) (rows_ahead gap width gap count ahead)
      (length-take-le width (drop start xs) (omega (arith, length-drop start xs)))
      (rows_are_long gap width gap count ahead (λ more. omega arith))

  pub pixels_of_rows : (width : ℕ) (rows : List (List T)) → All (λ row. length row ≡ width) rows → length
      (row_major rows) ≡ length rows * width
  pixels_of_rows width [] each = omega arith
  pixels_of_rows width (row ∷ rows) each =
      let others = pixels_of_rows width rows (All-tail (λ row. length row ≡ width) row rows each) in
      rw (length-append row (row_major rows), All-head (λ row. length row ≡ width) row rows each, others) (omega arith)

  pub no_rows : (start width gap count : ℕ) (xs : List T) → count ≡ 0 → rows_ahead start width gap count xs ≡ []
  no_rows start width gap count xs e = rw e refl

  pub first_row : (start width gap count : ℕ) (xs : List T) → 0 < count
      → rows_ahead start width gap count xs ≡ take width (drop start xs) ∷ rows_ahead gap width gap (count - 1)
      (drop width (drop start xs))
  first_row start width gap count xs h =
      let e : count ≡ suc (count - 1) = omega arith in
      ap (λ n. rows_ahead start width gap n xs) e

  -- The entries after the first row, the entries before the last row, and the entries from there on.
  pub behind_first : (start width gap count : ℕ) (xs : List T) → let last = start + suc count * (width + gap) in let
      behind = gap + count * (width + gap) in
      (drop width (drop start (take last xs)) ≡ take behind (drop width (drop start xs))) ×
      (drop last xs ≡ drop behind (drop width (drop start xs)))
  behind_first start width gap count xs =
      let behind = gap + count * (width + gap) in
      let e : start + suc count * (width + gap) ≡ start + (width + behind) = omega arith in
      rw (e, drop-take, drop-take, drop-drop behind width (drop start xs), drop-drop (width + behind) start xs)
      (refl, refl)

  -- The last row lies after the entries of the other rows.
  last_of_more : (start width gap count : ℕ) (xs : List T)
      → rows_ahead start width gap (suc count) xs ≡ rows_ahead start width gap count
      (take (start + count * (width + gap)) xs) ++
      take width (drop (start + count * (width + gap)) xs) ∷ []
  last_of_more start width gap zero xs =
      let e : start + 0 * (width + gap) ≡ start = omega arith in
      rw e refl
  last_of_more start width gap (suc count) xs =
      let e : start + suc count * (width + gap) ≡ start + (width + (gap + count * (width + gap))) = omega arith in
      let row : take width (drop start (take (start + suc count * (width + gap)) xs)) ≡ take width (drop start xs) =
      rw (e, drop-take) (take-take width (width + (gap + count * (width + gap))) (drop start xs) (omega arith)) in
      let at = behind_first start width gap count xs in
      rw (row, at.0, at.1, last_of_more gap width gap count (drop width (drop start xs))) refl

  pub last_row : (start width gap count : ℕ) (xs : List T) → 0 < count
      → rows_ahead start width gap count xs ≡ rows_ahead start width gap (count - 1)
      (take (start + (count - 1) * (width + gap)) xs) ++
      take width (drop (start + (count - 1) * (width + gap)) xs) ∷ []
  last_row start width gap count xs h =
      let e : count ≡ suc (count - 1) = omega arith in
      ap (λ n. rows_ahead start width gap n xs) e ∙ last_of_more start width gap (count - 1) xs

  slice_get-rows_ahead : (start width gap count : ℕ) (xs : List T) (y : ℕ) → y < count
      → slice_get (rows_ahead start width gap count xs) y ≡ Some (take width (drop (start + y * (width + gap)) xs))
  slice_get-rows_ahead start width gap zero xs y h = absurd (omega arith)
  slice_get-rows_ahead start width gap (suc count) xs zero h =
      let e : start + 0 * (width + gap) ≡ start = omega arith in
      rw e refl
  slice_get-rows_ahead start width gap (suc count) xs (suc y) h =
      let e : start + suc y * (width + gap) ≡ start + (width + (gap + y * (width + gap))) = omega arith in
      rw (
        slice_get-rows_ahead gap width gap count (drop width (drop start xs)) y (omega arith),
        drop-drop (gap + y * (width + gap)) width (drop start xs),
        drop-drop (width + (gap + y * (width + gap))) start xs,
        e,
      ) refl

  -- The rows ahead of the origin of a whole buffer are the visible rows.
  pub visible_rows : (g : Geometry) (xs : List T) (start width gap count : ℕ) → start ≡ origin_of g → width ≡ g.width →
      gap ≡ stride_of g - g.width →
      count ≡ g.height
      → rows_ahead start width gap count xs ≡ table_of (raster g xs)
  visible_rows g xs start width gap count s w n c =
      let p : Raster T = raster g xs in
      let rows = rows_ahead start width gap count xs in
      same_by_slice_get rows (table_of p) (rw (count_of_rows start width gap count xs, c) (sym (length-shown p)))
      (λ y h.
      let low : y < count = omega (arith, count_of_rows start width gap count xs) in
      let stride : width + gap ≡ stride_of g = omega arith in
      let at : start + y * (width + gap) ≡ row_start g y = omega
      (arith, place_of_row g y (omega arith), ap (λ k. y * k) stride) in
      rw (slice_get-rows_ahead start width gap count xs y low, shown_row p y (omega arith), at, w) refl)

-- The number of rows that remain in an iterator.
pub count_left : {T : Type 0} (walk : RowsMut T) → length (rows_left walk) ≡ walk.count
unfolding rows_left
count_left walk = count_of_rows walk.start walk.width walk.gap walk.count walk.rest.now

-- Rules for calls that take a row.
pub ruleset rows_taken = (no_rows, first_row, last_row, count_of_rows)

-- These rows lie within the buffer.
pub rows_within : (g : Geometry) (start width gap count : ℕ) → 0 < g.height → start ≡ origin_of g → width ≡ g.width →
    gap ≡ stride_of g - g.width →
    count ≡ g.height
    → start + count * (width + gap) ≤ alloc_size_of g + gap
rows_within g start width gap count high s w n c =
    let last = g.height - 1 in
    let stride : width + gap ≡ stride_of g = omega arith in
    let rows : count ≡ last + 1 = omega arith in
    let all : count * (width + gap) ≡ last * stride_of g + stride_of g = ap (λ k. k * (width + gap)) rows ∙ ap
    (λ k. (last + 1) * k) stride ∙ omega arith in
    omega (arith, place_of_row g last high, row_within g last (omega arith))

-- A plane has at most as many rows as its buffer has entries.
pub few_rows : {T : Type 0} (p : Raster T) → 0 < p.geometry.width → Fits p.geometry → length (table_of p) < 2 ^ 63
few_rows p wide fits = omega (arith, length-shown p, visible_within p.geometry, mul-le-mul_right p.geometry.height wide)
