-- The relation between a buffer and its picture: the results of reads, and the effects of writes, at the index where
-- the plan puts a row.
use Rattle.std.proofs.Common.{ℕ, zero, suc, ◌≡◌, ◌+◌, ◌<◌, ◌≤◌, List, [], ◌∷◌, ◌++◌, length, take, drop, Some}
use Rattle.std.proofs.Common.{slice_get, slice_set, refl, sym, ◌∙◌, ap, arith, append_assoc, length-append, length-drop}
use Rattle.std.proofs.Common.{length-take, length-take-le, take-append-drop}
use Rattle.std.proofs.lemmas.List.{drop-drop, take-append-le, drop-append-le, take_at, drop_at, set_at}
use Rattle.v_frame_raster.specs.Geometry.{Geometry, stride_of, Mark, Visible, Piece, visible_piece, times, outer_row}
use Rattle.v_frame_raster.specs.Geometry.{crossing_row, cutting_plan}
use Rattle.v_frame_raster.proofs.Plans.{total, before_row, after_row, plan_at_row, row_start, total-before_row}
use Rattle.v_frame_raster.specs.Raster.{Raster, cut_by, visible_pieces, border_pieces, table_of}
use Rattle.v_frame_raster.proofs.tables.Lists.{slice_get-at}

module _ {T : Type 0} where
  cut_by-append : (p q : List Piece) (xs : List T) → cut_by (p ++ q) xs ≡ cut_by p xs ++ cut_by q (drop (total p) xs)
  cut_by-append [] q xs = refl
  cut_by-append (piece ∷ p) q xs =
      rw (cut_by-append p q (drop piece.entries xs), drop-drop (total p) piece.entries xs) refl

  visible_pieces-append : (a b : List (Mark × List T)) → visible_pieces (a ++ b) ≡ visible_pieces a ++ visible_pieces b
  visible_pieces-append [] b = refl
  visible_pieces-append (piece ∷ a) b = simp (visible_pieces-append a b, append_assoc)

  border_pieces-append : (a b : List (Mark × List T)) → border_pieces (a ++ b) ≡ border_pieces a ++ border_pieces b
  border_pieces-append [] b = refl
  border_pieces-append (piece ∷ a) b = simp (border_pieces-append a b, append_assoc)

  -- Cutting a buffer reads only the entries that its pieces cover.
  cut_by-front : (p : List Piece) (xs ys : List T) → total p ≤ length xs → cut_by p (xs ++ ys) ≡ cut_by p xs
  cut_by-front [] xs ys h = refl
  cut_by-front (piece ∷ p) xs ys h =
      let at : piece.entries ≤ length xs = omega arith in
      let more : total p ≤ length (drop piece.entries xs) = omega (arith, length-drop piece.entries xs) in
      rw (
        take-append-le piece.entries xs ys at,
        drop-append-le piece.entries xs ys at,
        cut_by-front p (drop piece.entries xs) ys more,
      ) refl

module _ {T : Type 0} where
  no_row_outside : (g : Geometry) (n : ℕ) (xs : List T) → visible_pieces (cut_by (times n (outer_row g)) xs) ≡ []
  no_row_outside g zero xs = refl
  no_row_outside g (suc n) xs = no_row_outside g n (drop (stride_of g) xs)

  rows_crossed : (g : Geometry) (n : ℕ) (xs : List T)
      → length (visible_pieces (cut_by (times n (crossing_row g)) xs)) ≡ n
  rows_crossed g zero xs = refl
  rows_crossed g (suc n) xs = ap suc (rows_crossed g n (drop g.pad_right (drop g.width (drop g.pad_left xs))))

  rows_before : (g : Geometry) (y : ℕ) (xs : List T) → length (visible_pieces (cut_by (before_row g y) xs)) ≡ y
  rows_before g y xs =
      simp (cut_by-append, visible_pieces-append, no_row_outside, rows_crossed, length-append) (omega arith)

  -- The picture before and after the y-th visible piece.
  picture_at_row : (g : Geometry) (xs : List T) (y : ℕ) → y < g.height
      → cut_by (cutting_plan g) xs ≡ cut_by (before_row g y) xs ++ (Visible, take g.width (drop (row_start g y) xs)) ∷
      cut_by (after_row g y) (drop (row_start g y + g.width) xs)
  picture_at_row g xs y h =
      let around = visible_piece g.width ∷ after_row g y in
      rw (
        plan_at_row g y h,
        cut_by-append (before_row g y) around xs,
        total-before_row g y,
        drop-drop g.width (row_start g y) xs,
      ) refl

  -- The table before and after this row.
  shown_at_row : (g : Geometry) (xs : List T) (y : ℕ) → y < g.height
      → visible_pieces (cut_by (cutting_plan g) xs)
      ≡ visible_pieces (cut_by (before_row g y) xs) ++ take g.width (drop (row_start g y) xs)
      ∷ visible_pieces (cut_by (after_row g y) (drop (row_start g y + g.width) xs))
  shown_at_row g xs y h =
      ap visible_pieces (picture_at_row g xs y h) ∙ visible_pieces-append (cut_by (before_row g y) xs) _

  -- Row y of the table is the part of the buffer that begins at the start of the row.
  pub shown_row : (p : Raster T) (y : ℕ) → y < p.geometry.height → slice_get (table_of p) y ≡
      Some (take p.geometry.width (drop (row_start p.geometry y) p.buffer))
  shown_row p y h =
      let g = p.geometry in
      let row = take g.width (drop (row_start g y) p.buffer) in
      let after = visible_pieces (cut_by (after_row g y) (drop (row_start g y + g.width) p.buffer)) in
      rw (shown_at_row g p.buffer y h)
      (rw (rows_before g y p.buffer) at (slice_get-at (visible_pieces (cut_by (before_row g y) p.buffer)) row after))

  pub length-shown : (p : Raster T) → length (table_of p) ≡ p.geometry.height
  length-shown p =
      simp (cut_by-append, visible_pieces-append, no_row_outside, rows_crossed, length-append) (omega arith)

  -- The entries xs, with those from index a on overwritten by the row.
  abbrev pub overwritten : List T → ℕ → List T → List T
  overwritten xs a row = take a xs ++ (row ++ drop (length row) (drop a xs))

  pub length-overwritten : (xs ys : List T) (start : ℕ) → start + length ys ≤ length xs
      → length (overwritten xs start ys) ≡ length xs
  length-overwritten xs ys start inside = simp (length-append, length-take, length-drop) (omega arith)

  picture_of_overwritten : (g : Geometry) (xs row : List T) (y : ℕ) → y < g.height → length row ≡ g.width
      → row_start g y + g.width ≤ length xs
      → cut_by (cutting_plan g) (overwritten xs (row_start g y) row) ≡ cut_by (before_row g y) xs ++ (Visible, row) ∷
      cut_by (after_row g y) (drop (row_start g y + g.width) xs)
  picture_of_overwritten g xs row y h same inside =
      let a = row_start g y in
      let low : a ≤ length xs = omega arith in
      let enough : total (before_row g y) ≤ length (take a xs) = omega (
        arith,
        total-before_row g y,
        length-take-le a xs low,
      ) in
      let behind = row ++ drop (length row) (drop a xs) in
      let from : drop a (overwritten xs a row) ≡ behind = drop_at (take a xs) behind a (length-take-le a xs low) in
      let rest : drop (a + g.width) (overwritten xs a row) ≡ drop (a + g.width) xs =
      rw (← drop-drop g.width a (overwritten xs a row), from, drop_at row _ g.width same, same)
      (drop-drop g.width a xs) in
      let front : cut_by (before_row g y) (take a xs) ≡ cut_by (before_row g y) xs =
      rw (← cut_by-front (before_row g y) (take a xs) (drop a xs) enough)
      (ap (cut_by (before_row g y)) (take-append-drop a xs)) in
      let written = cut_by-front (before_row g y) (take a xs) behind enough in
      rw (picture_at_row g (overwritten xs a row) y h, rest, from, take_at row _ g.width same, written, front) refl

  -- Writing a row where the y-th row begins replaces row y of the table, and keeps the border.
  pub shown_overwritten : (g : Geometry) (xs row : List T) (y : ℕ) → y < g.height → length row ≡ g.width
      → row_start g y + g.width ≤ length xs
      → visible_pieces (cut_by (cutting_plan g) (overwritten xs (row_start g y) row))
      ≡ slice_set (visible_pieces (cut_by (cutting_plan g) xs)) y row
  shown_overwritten g xs row y h same inside =
      rw (picture_of_overwritten g xs row y h same inside, visible_pieces-append, shown_at_row g xs y h)
      (sym (set_at _ _ _ row y (rows_before g y xs)))

  pub border_overwritten : (g : Geometry) (xs row : List T) (y : ℕ) → y < g.height → length row ≡ g.width
      → row_start g y + g.width ≤ length xs
      → border_pieces (cut_by (cutting_plan g) (overwritten xs (row_start g y) row))
      ≡ border_pieces (cut_by (cutting_plan g) xs)
  border_overwritten g xs row y h same inside =
      rw (
        picture_of_overwritten g xs row y h same inside,
        picture_at_row g xs y h,
        border_pieces-append,
        border_pieces-append,
      ) refl
