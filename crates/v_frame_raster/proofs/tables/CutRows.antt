-- Joined rows, and a list that is cut into rows: the number of rows, the index where each begins, and the fact that they
-- make up the list. Rows of one width are recovered from their joined pixels.
use Rattle.std.proofs.Common.{ℕ, zero, suc, ◌≡◌, ◌+◌, ◌*◌, ◌<◌, List, [], ◌∷◌, length, map, take, drop, All, Some}
use Rattle.std.proofs.Common.{◌++◌, append_assoc, get_or, slice_get, refl, sym, ◌∙◌, ap, arith, take-append-drop, length-drop, suc-add}
use Rattle.std.proofs.lemmas.List.{drop-drop, take_at, drop_at, length-map, nil_from_length}
use Rattle.std.proofs.lemmas.List.Elements.{All-head, All-tail}
use Rattle.v_frame_raster.specs.Table.{Table, width_of, height_of, row_major, cut_rows}

module _ {T : Type 0} where
  -- joined rows of two tables, one after the other
  pub row_major-append : (rows others : Table T) → row_major (rows ++ others) ≡ row_major rows ++ row_major others
  row_major-append [] others = refl
  row_major-append (row ∷ rows) others = simp (row_major-append rows others, append_assoc)

  pub length-cut_rows : (width height : ℕ) (source : List T) → length (cut_rows width height source) ≡ height
  length-cut_rows width zero source = refl
  length-cut_rows width (suc height) source = ap suc (length-cut_rows width height (drop width source))

  -- The rows of a packed source make up the source.
  pub row_major-cut_rows : (width height : ℕ) (source : List T) → length source ≡ width * height
      → row_major (cut_rows width height source) ≡ source
  row_major-cut_rows width zero [] h = refl
  row_major-cut_rows width zero (pixel ∷ source) h = absurd (omega (arith, h))
  row_major-cut_rows width (suc height) source h =
      rw (row_major-cut_rows width height (drop width source) (omega (arith, length-drop width source)))
      (take-append-drop width source)

  -- Piece y of a source begins at index `width * y`.
  pub slice_get-cut_rows : (width height : ℕ) (source : List T) (y : ℕ) → y < height →
      slice_get (cut_rows width height source) y ≡ Some (take width (drop (width * y) source))
  slice_get-cut_rows width zero source y h = absurd (omega arith)
  slice_get-cut_rows width (suc height) source zero h = let e : width * 0 ≡ 0 = omega arith in rw e refl
  slice_get-cut_rows width (suc height) source (suc y) h =
      let e : width * suc y ≡ width + width * y = omega arith in
      rw (
        slice_get-cut_rows width height (drop width source) y (omega arith),
        drop-drop (width * y) width source,
        e,
      ) refl

module _ {T : Type 0} where
  -- One more piece of a source is the one after the pieces so far.
  pub cut_rows-one_more : (width pieces : ℕ) (source : List T)
      → cut_rows width (pieces + 1) source
      ≡ cut_rows width pieces source ++ take width (drop (width * pieces) source) ∷ []
  cut_rows-one_more width zero source = let none : width * 0 ≡ 0 = omega arith in rw none refl
  cut_rows-one_more width (suc pieces) source =
      let e : width + width * pieces ≡ width * suc pieces = omega arith in
      rw (
        suc-add pieces 1,
        cut_rows-one_more width pieces (drop width source),
        drop-drop (width * pieces) width source,
        e,
      )

module _ {T : Type 0} (width : ℕ) where
  cut-row_major : (table rows : Table T) → map length rows ≡ map length table → All (λ row. length row ≡ width) table
      → cut_rows width (length table) (row_major rows) ≡ rows
  cut-row_major [] rows same wide = sym (nil_from_length rows (omega (arith, ap length same, length-map rows length)))
  cut-row_major (first ∷ table) [] same wide = absurd (omega (arith, ap length same))
  cut-row_major (first ∷ table) (row ∷ rows) same wide =
      let long : length row ≡ width = ap (λ ns. get_or ns 0 0) same
      ∙ All-head (λ r. length r ≡ width) first table wide in
      let rest = cut-row_major table rows (ap (drop 1) same) (All-tail (λ r. length r ≡ width) first table wide) in
      rw (take_at row (row_major rows) width long, drop_at row (row_major rows) width long, rest)

  width_is : (rows : Table T) → All (λ row. length row ≡ width) rows → (pixels : List T)
      → cut_rows (width_of rows) (length rows) pixels ≡ cut_rows width (length rows) pixels
  width_is [] wide pixels = refl
  width_is (row ∷ rows) wide pixels =
      ap (λ w. cut_rows w (length (row ∷ rows)) pixels) (All-head (λ r. length r ≡ width) row rows wide)

  -- This also holds for rows with the lengths of the rows of a table of one width.
  pub cut_again : (table rows : Table T) → map length rows ≡ map length table → All (λ row. length row ≡ width) table
      → cut_rows (width_of table) (height_of table) (row_major rows) ≡ rows
  cut_again table rows same wide = width_is table wide (row_major rows) ∙ cut-row_major table rows same wide
