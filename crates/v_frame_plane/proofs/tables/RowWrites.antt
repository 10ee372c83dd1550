-- The table after a write into one row of a buffer, or into a row and the entries after it.
use Rattle.std.proofs.Common.{ℕ, ◌≡◌, ◌+◌, ◌<◌, ◌≤◌, List, ◌++◌, length, take, drop, Some, slice_get, refl, sym, ◌∙◌}
use Rattle.std.proofs.Common.{ap, subst, arith}
use Rattle.std.proofs.lemmas.List.{drop-drop}
use Rattle.std.specs.List.{refill}
use Rattle.v_frame_buffer.specs.Part.{with_part}
use Rattle.v_frame_raster.specs.Geometry.{alloc_size_of, place_of}
use Rattle.v_frame_raster.specs.Raster.{Raster, raster, table_of}
use Rattle.v_frame_raster.specs.Writes.{WritesRow, WritesEachFront}
use Rattle.v_frame_plane.specs.Plane.{WritesEachRow}
use Rattle.v_frame_raster.proofs.Plans.{row_start, place_of_row, row_within}
use Rattle.v_frame_raster.proofs.tables.Lists.{refill_same, set_is_read, others_are_read}
use Rattle.v_frame_raster.proofs.tables.Pictures.{length-shown, overwritten, length-overwritten, shown_overwritten}
use Rattle.v_frame_raster.proofs.tables.Pictures.{border_overwritten}
use Rattle.v_frame_raster.proofs.tables.Places.{row_wide}

module _ {T : Type 0} where
  -- A write inside a list keeps the length of the list.
  with_part-overwritten : (xs ys : List T) (start : ℕ) → start + length ys ≤ length xs
      → with_part xs start ys ≡ overwritten xs start ys
  with_part-overwritten xs ys start inside =
      refill_same xs (overwritten xs start ys) (length-overwritten xs ys start inside)

  module _ (p : Raster T) (whole : length p.buffer ≡ alloc_size_of p.geometry) where
    -- Writing a row where a row lies replaces it in the table, and keeps the border.
    pub writes_each_row : (y : ℕ) (old : List T) → y < p.geometry.height → slice_get (table_of p) y ≡ Some old
        → WritesEachRow p y old
    writes_each_row y old high is = λ row same.
        let g = p.geometry in
        let wide : length row ≡ g.width = same ∙ row_wide p whole y old is in
        let within : row_start g y + g.width ≤ length p.buffer = omega (arith, whole, row_within g y high) in
        let shown = shown_overwritten g p.buffer row y high wide within in
        rw (place_of_row g y (omega arith), with_part-overwritten p.buffer row (row_start g y) (omega arith)) (record {
          geometry = refl;
          border = border_overwritten g p.buffer row y high wide within;
          table = shown;
          written = rw shown (set_is_read (table_of p) y row (omega (arith, high, length-shown p)));
          others = λ k from_y. rw shown (others_are_read (table_of p) y k row from_y);
        })

    -- This also holds for a row in front of the rest of the buffer.
    pub writes_each_front : (y : ℕ) (old rest : List T) → y < p.geometry.height → slice_get (table_of p) y ≡ Some old →
        rest ≡ drop (place_of p.geometry 0 y + p.geometry.width) p.buffer → WritesEachFront p y old rest
    writes_each_front y old rest high is behind = λ row same.
        let xs = p.buffer in let start = place_of p.geometry 0 y in
        let kept : drop (length row) (drop start xs) ≡ rest = drop-drop (length row) start xs
        ∙ ap (λ n. drop (start + n) xs) (same ∙ row_wide p whole y old is) ∙ sym behind in
        subst (λ r. WritesRow p y (raster p.geometry (refill (length xs) xs (take start xs ++ (row ++ r)))) row) kept
        (writes_each_row y old high is row same)
