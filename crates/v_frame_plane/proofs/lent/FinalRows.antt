-- Final values of rows that replace the remaining rows of an iterator: the rows that `next` and `next_back` take, and
-- the table of a plane with these rows.
use Rattle.v_frame_buffer.proofs.Steps.{ℕ, ◌≡◌, ◌+◌, ◌-◌, ◌*◌, ◌<◌, ◌≤◌, List, [], ◌∷◌, ◌++◌, length, take}
use Rattle.v_frame_buffer.proofs.Steps.{list_drop as drop, refl, sym, ◌∙◌, ap, arith, append_assoc, length-take-le}
use Rattle.v_frame_buffer.proofs.Steps.{zero, suc, map, All, take-append-drop, length-append, take-take, get_or-map}
use Rattle.v_frame_buffer.proofs.Steps.{All-head, All-tail, append-nil}
use Rattle.std.proofs.lemmas.List.{take_all}
use Rattle.std.proofs.Math.Seq.{take-append-add, drop-append-add, take-suc-set}
use Rattle.v_frame_raster.specs.Geometry.{Geometry, stride_of, alloc_size_of, origin_of}
use Rattle.v_frame_raster.proofs.Plans.{row_start, place_of_row, row_within}
use Rattle.v_frame_plane.specs.Cursor.{rows_ahead}
use Rattle.v_frame_raster.specs.Raster.{Raster, raster, table_of, border_of, with_entries}
use Rattle.v_frame_plane.specs.FinalRows.{with_rows_ahead, WritesTable}
use Rattle.v_frame_plane.proofs.iterators.Cursors.{behind_first}
use Rattle.v_frame_raster.proofs.tables.Lists.{refill_same, same_count}
use Rattle.v_frame_raster.proofs.tables.Pictures.{length-shown, overwritten, shown_overwritten, border_overwritten}
use Rattle.v_frame_raster.proofs.tables.Places.{rows_are_wide}
use Rattle.v_frame_raster.proofs.tables.Pictures.{length-overwritten}

module _ {T : Type 0} where
  -- Replacing the remaining rows by themselves changes nothing.
  pub with_rows_as_they_are : (start width gap count : ℕ) (xs : List T) → with_rows_ahead start width gap count xs
      (rows_ahead start width gap count xs) ≡ xs
  with_rows_as_they_are start width gap zero xs = refl
  with_rows_as_they_are start width gap (suc count) xs =
      rw (
        with_rows_as_they_are gap width gap count (drop width (drop start xs)),
        take-append-drop width
            (drop start xs),
      ) (take-append-drop start xs)

  pub with_first_row : (start width gap count : ℕ) (xs row : List T) (rows : List (List T)) → 0 < count
      → take start xs ++ (row ++ with_rows_ahead gap width gap (count - 1) (drop width (drop start xs)) rows) ≡
      with_rows_ahead start width gap count xs (row ∷ rows)
  with_first_row start width gap count xs row rows h =
      let e : suc (count - 1) ≡ count = omega arith in
      ap (λ n. with_rows_ahead start width gap n xs (row ∷ rows)) e

  -- The last row lies after the entries of the other rows.
  with_last_of_more : (start width gap count : ℕ) (xs row : List T) (rows : List (List T)) → length rows ≡ count
      → with_rows_ahead start width gap count (take (start + count * (width + gap)) xs) rows ++
      (row ++ drop width (drop (start + count * (width + gap)) xs)) ≡ with_rows_ahead start width gap (suc count) xs
      (rows ++ row ∷ [])
  with_last_of_more start width gap zero xs row [] same =
      let e : start + 0 * (width + gap) ≡ start = omega arith in
      rw e refl
  with_last_of_more start width gap zero xs row (r ∷ rows) same = absurd (omega arith)
  with_last_of_more start width gap (suc count) xs row [] same = absurd (omega arith)
  with_last_of_more start width gap (suc count) xs row (r ∷ rows) same =
      let last = start + suc count * (width + gap) in
      let at = behind_first start width gap count xs in
      rw (
        take-take start last xs (omega arith),
        at.0,
        at.1,
        ← with_last_of_more gap width gap count
            (drop width (drop start xs)) row rows (omega arith),
      )
      (simp append_assoc)

  pub with_last_row : (start width gap count : ℕ) (xs row : List T) (rows : List (List T)) → 0 < count → length rows ≡
      count - 1
      → with_rows_ahead start width gap (count - 1) (take (start + (count - 1) * (width + gap)) xs) rows ++
      (row ++ drop width (drop (start + (count - 1) * (width + gap)) xs)) ≡ with_rows_ahead start width gap count xs
      (rows ++ row ∷ [])
  with_last_row start width gap count xs row rows h same =
      let e : suc (count - 1) ≡ count = omega arith in
      with_last_of_more start width gap (count - 1) xs row rows same ∙ ap
      (λ n. with_rows_ahead start width gap n xs (rows ++ row ∷ [])) e

  -- In a longer slice, everything lies after the entries in front.
  with_rows_behind : (ahead start width gap count : ℕ) (front xs : List T) (rows : List (List T)) → length front ≡ ahead
      → with_rows_ahead (ahead + start) width gap count (front ++ xs) rows ≡ front ++ with_rows_ahead start width gap
      count xs rows
  with_rows_behind ahead start width gap zero front xs rows same = refl
  with_rows_behind ahead start width gap (suc count) front xs [] same = refl
  with_rows_behind ahead start width gap (suc count) front xs (row ∷ rows) same =
      rw (← same, take-append-add front xs start, drop-append-add front xs start)
      (append_assoc front (take start xs) (row ++ with_rows_ahead gap width gap count (drop width (drop start xs))
      rows))

  -- Replacing all rows writes the first row, and then the others after it.
  first_written : (start width gap count : ℕ) (xs row : List T) (rows : List (List T)) → length row ≡ width → start ≤
      length xs
      → with_rows_ahead start width gap (suc count) xs (row ∷ rows) ≡ with_rows_ahead (start + (width + gap)) width gap
      count (overwritten xs start row) rows
  first_written start width gap count xs row rows long h =
      let front : length (take start xs ++ row) ≡ start + width = rw (length-append (take start xs) row)
      (omega (arith, length-take-le start xs h)) in
      let at : start + (width + gap) ≡ start + width + gap = omega arith in
      let behind = drop width (drop start xs) in
      rw (
        at,
        long,
        ← append_assoc (take start xs) row behind,
        with_rows_behind (start + width) gap width gap count
            (take start xs ++ row) behind rows front,
      )
      (sym (append_assoc (take start xs) row (with_rows_ahead gap width gap count behind rows)))

  -- A plane whose rows from the y-th on are replaced has these rows in its table, and keeps its size and its border.
  written_from : (g : Geometry) (gap y count : ℕ) (xs : List T) (rows : List (List T)) → g.width + gap ≡ stride_of g →
      y + count ≡ g.height →
      All (λ row. length row ≡ g.width) rows → length rows ≡ count → length xs ≡ alloc_size_of g
      → let new = with_rows_ahead (row_start g y) g.width gap count xs rows in
      (length new ≡ length xs) × (border_of (raster g new) ≡ border_of (raster g xs)) ×
      (table_of (raster g new) ≡ take y (table_of (raster g xs)) ++ rows)
  written_from g gap y zero xs [] stride all wide same whole = (
    refl,
    refl,
    rw (append-nil, take_all y (table_of (raster g xs)) (omega (arith, length-shown (raster g xs))))
        refl,
  )
  written_from g gap y zero xs (row ∷ rows) stride all wide same whole = absurd (omega arith)
  written_from g gap y (suc count) xs [] stride all wide same whole = absurd (omega arith)
  written_from g gap y (suc count) xs (row ∷ rows) stride all wide same whole =
      let a = row_start g y in
      let long : length row ≡ g.width = All-head (λ row. length row ≡ g.width) row rows wide in
      let others = All-tail (λ row. length row ≡ g.width) row rows wide in
      let high : y < g.height = omega arith in
      let inside : a + g.width ≤ length xs = omega (arith, row_within g y high) in
      let size : length (overwritten xs a row) ≡ length xs = length-overwritten xs row a (omega arith) in
      let next : a + (g.width + gap) ≡ row_start g (suc y) = omega
      (arith, place_of_row g y (omega arith), place_of_row g (suc y) (omega arith)) in
      let rest = written_from g gap (suc y) count (overwritten xs a row) rows stride (omega arith) others (omega arith)
      (size ∙ whole) in
      let shown = take-suc-set (table_of (raster g xs)) y row (omega (arith, length-shown (raster g xs))) in
      rw (first_written a g.width gap count xs row rows long (omega arith), next) (
        rest.0 ∙ size,
        rest.1 ∙ border_overwritten g xs row y high long inside,
        rest.2 ∙ rw (shown_overwritten g xs row y high long inside, shown)
            (append_assoc (take y (table_of (raster g xs))) (row ∷ []) rows),
      )

  -- Rows with the lengths of the visible rows have the width of the plane.
  as_wide : (p : Raster T) (rows : List (List T)) → length p.buffer ≡ alloc_size_of p.geometry → map length rows ≡ map
      length (table_of p) →
      All (λ row. length row ≡ p.geometry.width) rows
  as_wide p rows whole same = λ k d h.
      let few = same_count rows (table_of p) same in
      rw (← get_or-map length rows k d 0 h, same, get_or-map length (table_of p) k d 0 (omega arith))
      (rows_are_wide p whole k d (omega arith))

  -- An iterator over a whole buffer can therefore write each table.
  pub writes_table : (p : Raster T) (start width gap count : ℕ) (rows : List (List T)) → length p.buffer ≡
      alloc_size_of p.geometry → 0 < p.geometry.height
      → start ≡ origin_of p.geometry → width ≡ p.geometry.width → gap ≡ stride_of p.geometry - p.geometry.width → count
      ≡ p.geometry.height →
      map length rows ≡ map length (table_of p)
      → WritesTable p (with_entries p (with_rows_ahead start width gap count p.buffer rows)) rows
  writes_table p start width gap count rows whole high s w n c same =
      let g = p.geometry in
      let few : length rows ≡ count = omega (arith, same_count rows (table_of p) same, length-shown p) in
      let from : start ≡ row_start g 0 = omega (arith, place_of_row g 0 high) in
      let written = written_from g gap 0 count p.buffer rows (omega arith) (omega arith) (as_wide p rows whole same)
      few whole in
      let entries = with_rows_ahead (row_start g 0) g.width gap count p.buffer rows in
      rw (from, w, refill_same p.buffer entries written.0)
      (record { geometry = refl; border = written.1; table = written.2 })
