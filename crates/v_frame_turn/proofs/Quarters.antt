-- Several rotations, flips and transpositions of tables in a row.
use Rattle.std.proofs.Common.{ℕ, zero, suc, ◌≡◌, ◌-◌, ◌<◌, List, [], ◌∷◌, ◌++◌, length, map, drop, take, reverse, Some}
use Rattle.std.proofs.Common.{Option, None, option_map, option_and_then, slice_get, refl, sym, ◌∙◌, ap, arith}
use Rattle.std.proofs.Common.{append-nil}
use Rattle.std.specs.List.{flat_map}
use Rattle.std.proofs.lemmas.Grind.{flat_map-append}
use Rattle.std.proofs.lemmas.List.{length-map, length-reverse, reverse-append, reverse-reverse}
use Rattle.std.proofs.lemmas.List.Elements.{All-map, All-weaker}
use Rattle.std.proofs.lemmas.Option.{get_or_from_slice_get, slice_get-map, slice_get_within}
use Rattle.v_frame.specs.Prelude.{Table, pixel_at, width_of}
use Rattle.v_frame_turn.specs.Turn.{columns, rotated_180, rotated_270, rotated_90, transposed, HasSize}
use Rattle.v_frame_raster.proofs.tables.ListItems.{map-reverse, same_by_pixel_at, slice_get-reverse}
use Rattle.v_frame_turn.proofs.Transposed.{Wide, columns_are_high, columns_hold, length-columns, pixel_of_reversed}
use Rattle.v_frame_turn.proofs.Transposed.{reversed_is_wide, width_of_wide}

module _ {T : Type 0} where
  -- Mirroring a table twice leaves it unchanged.
  pub mirrored_twice : (rows : Table T) → map reverse (map reverse rows) ≡ rows
  mirrored_twice [] = refl
  mirrored_twice (row ∷ rows) = rw (reverse-reverse row, mirrored_twice rows) refl

  pub half_twice : (rows : Table T) → rotated_180 (rotated_180 rows) ≡ rows
  half_twice rows =
      let turned = map reverse rows in
      ap reverse (map-reverse reverse turned) ∙ reverse-reverse (map reverse turned) ∙ mirrored_twice rows

  one_at_most : (row : List T) → reverse (take 1 row) ≡ take 1 row
  one_at_most [] = refl
  one_at_most (p ∷ row) = refl

  -- The first column of a table that is flipped upside down.
  first_upside_down : (rows : Table T) → flat_map (take 1) (reverse rows) ≡ reverse (flat_map (take 1) rows)
  first_upside_down [] = refl
  first_upside_down (row ∷ rows) =
      let first : List T = take 1 row in
      ap (flat_map (take 1)) (reverse-append (row ∷ []) rows) ∙ flat_map-append (take 1) (reverse rows) (row ∷ [])
      ∙ ap (λ r. r ++ (first ++ [])) (first_upside_down rows)
      ∙ ap (λ r. reverse (flat_map (take 1) rows) ++ r) (append-nil first ∙ sym (one_at_most row))
      ∙ sym (reverse-append first (flat_map (take 1) rows))

  -- The columns of a table that is flipped upside down are its columns, each reversed.
  columns_upside_down : (n : ℕ) (rows : Table T) → columns n (reverse rows) ≡ map reverse (columns n rows)
  columns_upside_down zero rows = refl
  columns_upside_down (suc n) rows =
      rw (first_upside_down rows, map-reverse (drop 1) rows, columns_upside_down n (map (drop 1) rows)) refl

  mirrored_pixel : (x w : ℕ) (row : Option (List T)) → ((r : List T) → row ≡ Some r → length r ≡ w) → x < w
      → option_and_then (λ r. slice_get r x) (option_map reverse row) ≡ option_and_then (λ r. slice_get r (w - 1 - x))
      row
  mirrored_pixel x w None long across = refl
  mirrored_pixel x w (Some row) long across =
      let wide : length row ≡ w = long row refl in
      let far : length row - 1 - x ≡ w - 1 - x = omega (arith, wide) in
      slice_get-reverse row x (omega (arith, wide)) ∙ ap (slice_get row) far

  pixel_of_mirrored : (w : ℕ) (rows : Table T) → Wide w rows → (x y : ℕ) → x < w → pixel_at (map reverse rows) x y
      ≡ pixel_at rows (w - 1 - x) y
  pixel_of_mirrored w rows wide x y across =
      ap (option_and_then (λ r. slice_get r x)) (slice_get-map reverse rows y)
      ∙ mirrored_pixel x w (slice_get rows y) (λ r is.
      ap length (sym (get_or_from_slice_get rows y r r is)) ∙ wide y r (slice_get_within rows y r is)) across

  module _ (rows : Table T) (w h : ℕ) (size : HasSize rows w h) where
    first : width_of rows ≡ w
    first = width_of_wide w rows size.rows_are_wide (omega (arith, size.count, size.high))

    transposed_is : transposed rows ≡ columns w rows
    transposed_is = ap (λ n. columns n rows) first

    pub size_reversed : HasSize (reverse rows) w h
    size_reversed = record {
      wide = size.wide;
      high = size.high;
      count = length-reverse rows ∙ size.count;
      rows_are_wide = reversed_is_wide w rows size.rows_are_wide;
    }

    pub size_mirrored : HasSize (map reverse rows) w h
    size_mirrored = record {
      wide = size.wide;
      high = size.high;
      count = length-map rows reverse ∙ size.count;
      rows_are_wide =
          All-map (λ row. length row ≡ w) reverse rows (All-weaker (λ row. length row ≡ w)
          (λ row. length (reverse row) ≡ w) (λ row long. length-reverse row ∙ long) rows size.rows_are_wide);
    }

    pub size_transposed : HasSize (transposed rows) h w
    size_transposed = rw transposed_is (record {
      wide = size.high;
      high = size.wide;
      count = length-columns w rows;
      rows_are_wide = rw size.count at (columns_are_high w rows size.rows_are_wide);
    })

    pub pixel_transposed : (x y : ℕ) → x < h → y < w → pixel_at (transposed rows) x y ≡ pixel_at rows y x
    pixel_transposed x y across down =
        ap (λ t. pixel_at t x y) transposed_is ∙ columns_hold w rows size.rows_are_wide y x down

    -- Flipping upside down and then transposing equals transposing and then mirroring.
    pub upside_down_first : transposed (reverse rows) ≡ map reverse (transposed rows)
    upside_down_first =
        let upper : width_of (reverse rows) ≡ w =
        width_of_wide w (reverse rows) size_reversed.rows_are_wide (omega (arith, size_reversed.count, size.high)) in
        rw (upper, first) (columns_upside_down w rows)

  module _ (rows : Table T) (w h : ℕ) (size : HasSize rows w h) where
    turned : HasSize (transposed rows) h w
    turned = size_transposed rows w h size

    pub transposed_twice : transposed (transposed rows) ≡ rows
    transposed_twice =
        let again = size_transposed (transposed rows) h w turned in
        same_by_pixel_at w (transposed (transposed rows)) rows (again.count ∙ sym size.count) again.rows_are_wide
        size.rows_are_wide
        (λ x y across down.
        pixel_transposed (transposed rows) h w turned x y across (omega (arith, down, again.count))
        ∙ pixel_transposed rows w h size y x (omega (arith, down, again.count)) across)

  module _ (rows : Table T) (w h : ℕ) (size : HasSize rows w h) where
    turned' : HasSize (transposed rows) h w
    turned' = size_transposed rows w h size

    -- Mirroring and then transposing equals transposing and then flipping upside down.
    pub mirrored_first : transposed (map reverse rows) ≡ reverse (transposed rows)
    mirrored_first =
        let upside_down = size_reversed (transposed rows) h w turned' in
        let is : transposed (reverse (transposed rows)) ≡ map reverse rows =
        upside_down_first (transposed rows) h w turned' ∙ ap (map reverse) (transposed_twice rows w h size) in
        ap transposed (sym is) ∙ transposed_twice (reverse (transposed rows)) h w upside_down

    pub size_rotated_90 : HasSize (rotated_90 rows) h w
    size_rotated_90 = size_transposed (reverse rows) w h (size_reversed rows w h size)

    pub size_rotated_180 : HasSize (rotated_180 rows) w h
    size_rotated_180 = size_reversed (map reverse rows) w h (size_mirrored rows w h size)

    pub size_rotated_270 : HasSize (rotated_270 rows) h w
    size_rotated_270 = size_reversed (transposed rows) h w turned'

    pub quarter_twice : rotated_90 (rotated_90 rows) ≡ rotated_180 rows
    quarter_twice =
        let upside_down = size_reversed rows w h size in
        let once = size_transposed (reverse rows) w h upside_down in
        upside_down_first (rotated_90 rows) h w once
        ∙ ap (map reverse) (transposed_twice (reverse rows) w h upside_down) ∙ map-reverse reverse rows

    pub quarter_after_three : rotated_90 (rotated_270 rows) ≡ rows
    quarter_after_three = ap transposed (reverse-reverse (transposed rows)) ∙ transposed_twice rows w h size

    pub pixel_rotated_90 : (x y : ℕ) → x < h → y < w → pixel_at (rotated_90 rows) x y ≡ pixel_at rows y (h - 1 - x)
    pixel_rotated_90 x y across down =
        let far : length rows - 1 - x ≡ h - 1 - x = omega (arith, size.count) in
        pixel_transposed (reverse rows) w h (size_reversed rows w h size) x y across down
        ∙ pixel_of_reversed rows y x (omega (arith, size.count)) ∙ ap (pixel_at rows y) far

    pub pixel_rotated_270 : (x y : ℕ) → x < h → y < w → pixel_at (rotated_270 rows) x y ≡ pixel_at rows (w - 1 - y) x
    pixel_rotated_270 x y across down =
        let far : length (transposed rows) - 1 - y ≡ w - 1 - y = omega (arith, turned'.count) in
        pixel_of_reversed (transposed rows) x y (omega (arith, turned'.count)) ∙ ap (pixel_at (transposed rows) x) far
        ∙ pixel_transposed rows w h size x (w - 1 - y) across (omega arith)

    pub pixel_rotated_180 : (x y : ℕ) → x < w → y < h → pixel_at (rotated_180 rows) x y
        ≡ pixel_at rows (w - 1 - x) (h - 1 - y)
    pixel_rotated_180 x y across down =
        let mirrored = size_mirrored rows w h size in
        let far : length (map reverse rows) - 1 - y ≡ h - 1 - y = omega (arith, mirrored.count) in
        pixel_of_reversed (map reverse rows) x y (omega (arith, mirrored.count))
        ∙ ap (pixel_at (map reverse rows) x) far ∙ pixel_of_mirrored w rows size.rows_are_wide x (h - 1 - y) across

  pub three_quarters : (rows : Table T) (w h : ℕ) → HasSize rows w h → rotated_90 (rotated_90 (rotated_90 rows))
      ≡ rotated_270 rows
  three_quarters rows w h size =
      ap rotated_90 (quarter_twice rows w h size)
      ∙ ap transposed (reverse-reverse (map reverse rows)) ∙ mirrored_first rows w h size

  pub four_quarters : (rows : Table T) (w h : ℕ) → HasSize rows w h
      → rotated_90 (rotated_90 (rotated_90 (rotated_90 rows))) ≡ rows
  four_quarters rows w h size =
      ap (λ t. rotated_90 (rotated_90 t)) (quarter_twice rows w h size)
      ∙ quarter_twice (rotated_180 rows) w h (size_rotated_180 rows w h size) ∙ half_twice rows
