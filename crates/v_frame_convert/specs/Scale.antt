-- Tables at another size. Each pixel is the mean of the block of pixels that it covers, or the
-- pixel in whose block it lies.
use Rattle.std.specs.Prelude.{ℕ, ◌≡◌, ◌+◌, ◌-◌, ◌*◌, ◌/◌, List, [], ◌∷◌, length, map, min, sum}
use Rattle.std.specs.Prelude.{flat_map, slice_get}
use Rattle.std.specs.List.{range_with_len}
use Rattle.std.specs.Option.{option_map_or}
use Rattle.v_frame.specs.Prelude.{Table, PixelForm}
use Rattle.v_frame_convert.specs.Range.{rounded_quotient}
use Rattle.v_frame_convert.specs.declared.scale.Scale.{Scale}
use Rattle.v_frame_convert.specs.declared.scale.Scale.TheVariants.{Quarter, Half, Same, Double}
use Rattle.v_frame_convert.specs.declared.scale.Scale.TheVariants.{Quadruple}

-- The columns (or rows) of the source that column (or row) `x` of the target covers.
abbrev pub places : Scale → ℕ → List ℕ
places Quarter x = 4 * x ∷ (4 * x + 1) ∷ (4 * x + 2) ∷ (4 * x + 3) ∷ []
places Half x = 2 * x ∷ (2 * x + 1) ∷ []
places Same x = x ∷ []
places Double x = x / 2 ∷ []
places Quadruple x = x / 4 ∷ []

-- The sizes of the source and of the target correspond. The smaller size is the larger size divided
-- by the ratio, rounded up.
abbrev pub SizesFit : Scale → ℕ → ℕ → Type 0
SizesFit Quarter source target = target ≡ (source + 3) / 4
SizesFit Half source target = target ≡ (source + 1) / 2
SizesFit Same source target = target ≡ source
SizesFit Double source target = source ≡ (target + 1) / 2
SizesFit Quadruple source target = source ≡ (target + 3) / 4

-- The mean of values, rounded to the nearest integer, halves up.
abbrev pub mean_of : List ℕ → ℕ
mean_of values = rounded_quotient (sum values) (length values)

module _ {T : Type 0} (form : PixelForm T) where
  -- The value of the pixel at column `x`, or of the last pixel if the row ends before that column.
  abbrev pub nearest_value : List T → ℕ → ℕ
  nearest_value row x = option_map_or form.value (slice_get row (min x (length row - 1))) 0

  -- The values of some columns of a row, and below it the values of these columns in row `y`, or in
  -- the last row if the table ends before row `y`.
  abbrev pub values_at : List ℕ → List T → List ℕ
  values_at columns row = map (nearest_value row) columns

  abbrev pub values_of_row : List ℕ → Table T → ℕ → List ℕ
  values_of_row columns rows y =
      option_map_or (values_at columns) (slice_get rows (min y (length rows - 1))) []

  -- The mean of the values of some columns in some rows.
  abbrev pub block_mean : List ℕ → List ℕ → Table T → ℕ
  block_mean columns lines rows = mean_of (flat_map (values_of_row columns rows) lines)

-- The table of `width` by `height` pixels whose pixel at column `x` of row `y` is `at x y`.
abbrev pub table_by : {T : Type 0} → ℕ → ℕ → (ℕ → ℕ → T) → Table T
table_by width height at =
    map (λ y. map (λ x. at x y) (range_with_len 0 width)) (range_with_len 0 height)

-- The table at another size, with each mean turned into a pixel by `pixel`.
abbrev pub scaled : {S T : Type 0} → PixelForm S → (ℕ → T) → Scale → Scale → ℕ → ℕ → Table S
    → Table T
scaled form pixel across down width height rows =
    table_by width height (λ x y. pixel (block_mean form (places across x) (places down y) rows))
