-- Transposed tables: their sizes, their pixels, and the results of further transpositions and flips.
use Rattle.std.proofs.Common.{ℕ, zero, suc, ◌≡◌, ◌-◌, ◌<◌, All, List, [], ◌∷◌, length, map, drop, take, reverse, Some}
use Rattle.std.proofs.Common.{Option, None, option_map, option_and_then, slice_get, refl, sym, ◌∙◌, ap, arith}
use Rattle.std.proofs.Common.{length-drop}
use Rattle.std.specs.List.{flat_map}
use Rattle.std.proofs.lemmas.List.{get_or-reverse, length-map, length-reverse}
use Rattle.std.proofs.lemmas.List.Elements.{All-nil, All-cons, All-head, All-tail}
use Rattle.std.proofs.lemmas.Option.{slice_get-map}
use Rattle.v_frame.specs.Prelude.{Table, height_of, pixel_at, strided_rows, width_of, RowsFit}
use Rattle.v_frame_raster.proofs.tables.Strides.{AreRows, height_is, rows_are_wide}
use Rattle.v_frame_raster.proofs.tables.ListItems.{same_by_pixel_at, slice_get-reverse}
use Rattle.v_frame_turn.specs.Turn.{columns, transposed}

-- Each row of a table has this number of pixels.
abbrev pub Wide : {T : Type 0} → ℕ → Table T → Type 0
Wide width rows = All (λ row. length row ≡ width) rows

module _ {T : Type 0} where
  -- The rows without their first pixels.
  abbrev rest : Table T → Table T
  rest rows = map (drop 1) rows

  rest_is_wide : (n : ℕ) (rows : Table T) → Wide (suc n) rows → Wide n (rest rows)
  rest_is_wide n [] wide = All-nil (λ row. length row ≡ n)
  rest_is_wide n (row ∷ rows) wide =
      All-cons (λ r. length r ≡ n) (drop 1 row) (rest rows)
      (omega (arith, length-drop 1 row, All-head (λ r. length r ≡ suc n) row rows wide))
      (rest_is_wide n rows (All-tail (λ r. length r ≡ suc n) row rows wide))

  -- A column has as many pixels as the table has rows.
  length-column : (n : ℕ) (rows : Table T) → Wide (suc n) rows → length (flat_map (take 1) rows) ≡ length rows
  length-column n [] wide = refl
  length-column n ([] ∷ rows) wide = absurd (omega (arith, All-head (λ r. length r ≡ suc n) [] rows wide))
  length-column n ((p ∷ row) ∷ rows) wide =
      ap suc (length-column n rows (All-tail (λ r. length r ≡ suc n) (p ∷ row) rows wide))

  pub length-columns : (n : ℕ) (rows : Table T) → length (columns n rows) ≡ n
  length-columns zero rows = refl
  length-columns (suc n) rows = ap suc (length-columns n (rest rows))

  pub columns_are_high : (n : ℕ) (rows : Table T) → Wide n rows → Wide (length rows) (columns n rows)
  columns_are_high zero rows wide = All-nil (λ row. length row ≡ length rows)
  columns_are_high (suc n) rows wide =
      let same : length (rest rows) ≡ length rows = length-map rows (drop 1) in
      All-cons (λ r. length r ≡ length rows) (flat_map (take 1) rows) (columns n (rest rows))
      (length-column n rows wide)
      (rw same at (columns_are_high n (rest rows) (rest_is_wide n rows wide)))

  -- The pixels of the first column are the first pixels of the rows.
  first_column : (n : ℕ) (rows : Table T) (y : ℕ) → Wide (suc n) rows → slice_get (flat_map (take 1) rows) y
      ≡ pixel_at rows 0 y
  first_column n [] y wide = refl
  first_column n ([] ∷ rows) y wide = absurd (omega (arith, All-head (λ r. length r ≡ suc n) [] rows wide))
  first_column n ((p ∷ row) ∷ rows) zero wide = refl
  first_column n ((p ∷ row) ∷ rows) (suc y) wide =
      first_column n rows y (All-tail (λ r. length r ≡ suc n) (p ∷ row) rows wide)

  after_first : (x : ℕ) (row : Option (List T)) → option_and_then (λ r. slice_get r x) (option_map (drop 1) row)
      ≡ option_and_then (λ r. slice_get r (suc x)) row
  after_first x None = refl
  after_first x (Some []) = refl
  after_first x (Some (p ∷ row)) = refl

  pixel_of_rest : (rows : Table T) (x y : ℕ) → pixel_at (rest rows) x y ≡ pixel_at rows (suc x) y
  pixel_of_rest rows x y =
      ap (option_and_then (λ r. slice_get r x)) (slice_get-map (drop 1) rows y) ∙ after_first x (slice_get rows y)

  -- The pixels of the columns are the pixels of the rows.
  pub columns_hold : (n : ℕ) (rows : Table T) → Wide n rows → (x y : ℕ) → x < n → pixel_at (columns n rows) y x
      ≡ pixel_at rows x y
  columns_hold zero rows wide x y h = absurd (omega arith)
  columns_hold (suc n) rows wide zero y h = first_column n rows y wide
  columns_hold (suc n) rows wide (suc x) y h =
      columns_hold n (rest rows) (rest_is_wide n rows wide) x y (omega arith) ∙ pixel_of_rest rows x y

  pub width_of_wide : (n : ℕ) (rows : Table T) → Wide n rows → 0 < length rows → width_of rows ≡ n
  width_of_wide n [] wide high = absurd (omega arith)
  width_of_wide n (row ∷ rows) wide high = All-head (λ r. length r ≡ n) row rows wide

  pub reversed_is_wide : (n : ℕ) (rows : Table T) → Wide n rows → Wide n (reverse rows)
  reversed_is_wide n rows wide = λ k d h.
      let within : k < length rows = omega (arith, h, length-reverse rows) in
      ap length (get_or-reverse rows k d within) ∙ wide (length rows - 1 - k) d (omega arith)

  pub pixel_of_reversed : (rows : Table T) (x y : ℕ) → y < length rows → pixel_at (reverse rows) x y
      ≡ pixel_at rows x (length rows - 1 - y)
  pixel_of_reversed rows x y h = ap (option_and_then (λ r. slice_get r x)) (slice_get-reverse rows y h)

-- The rows of a buffer are a table if they have its size and its pixels.
module _ {T : Type 0} (w h s : ℕ) (xs : List T) (source : Table T) (fit : RowsFit w h s (length xs))
    (wide : Wide h source) (count : height_of source ≡ w) where
  abbrev shown : Table T
  shown = strided_rows w h s xs

  abbrev ShownAs : Table T → Type 0
  ShownAs turned = (x y : ℕ) → x < w → y < h → pixel_at shown x y ≡ pixel_at turned x y

  shown_as : (turned : Table T) → length turned ≡ h → Wide w turned → ShownAs turned → shown ≡ turned
  shown_as turned high across each =
      let known : AreRows w h s xs shown = record { is = refl; fit = fit } in
      same_by_pixel_at w shown turned (height_is known ∙ sym high) (rows_are_wide known) across
      (λ x y i j. each x y i (omega (arith, j, height_is known)))

  first : width_of source ≡ h
  first = width_of_wide h source wide (omega (arith, fit.wide))

  turned_is_wide : Wide w (columns h source)
  turned_is_wide = rw count at (columns_are_high h source wide)

  pub shown_transposed : ((x y : ℕ) → x < w → y < h → pixel_at shown x y ≡ pixel_at source y x) → shown
      ≡ transposed source
  shown_transposed each =
      rw first (shown_as (columns h source) (length-columns h source) turned_is_wide
      (λ x y i j. each x y i j ∙ sym (columns_hold h source wide y x j)))

  pub shown_rotated_270 : ((x y : ℕ) → x < w → y < h → pixel_at shown x y ≡ pixel_at source (h - 1 - y) x) → shown
      ≡ reverse (transposed source)
  shown_rotated_270 each =
      let turned = columns h source in
      let long : length turned ≡ h = length-columns h source in
      rw first (shown_as (reverse turned) (length-reverse turned ∙ long) (reversed_is_wide w turned turned_is_wide)
      (λ x y i j.
      let far : length turned - 1 - y ≡ h - 1 - y = omega (arith, long) in
      each x y i j ∙ sym (columns_hold h source wide (h - 1 - y) x (omega arith))
      ∙ ap (pixel_at turned x) (sym far) ∙ sym (pixel_of_reversed turned x y (omega (arith, long)))))

-- The rows of a buffer are the rotated table if they have its size and its pixels.
pub shown_rotated_90 : {T : Type 0} (w h s : ℕ) (xs : List T) (source : Table T) → RowsFit w h s (length xs) → Wide h
    source
    → height_of source ≡ w
    → ((x y : ℕ) → x < w → y < h → pixel_at (strided_rows w h s xs) x y ≡ pixel_at source y (w - 1 - x))
    → strided_rows w h s xs ≡ transposed (reverse source)
shown_rotated_90 w h s xs source fit wide count each =
    shown_transposed w h s xs (reverse source) fit (reversed_is_wide h source wide) (length-reverse source ∙ count)
    (λ x y i j.
    let far : length source - 1 - x ≡ w - 1 - x = omega (arith, count) in
    each x y i j ∙ ap (pixel_at source y) (sym far) ∙ sym (pixel_of_reversed source y x (omega (arith, count))))
