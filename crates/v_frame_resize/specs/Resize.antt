-- Resized pictures. Along one axis, the source and the target cover the same line of source *
-- target units. A source pixel covers `target` units, and a target pixel covers `source` units.
use Rattle.std.specs.Prelude.{ℕ, ◌+◌, ◌-◌, ◌*◌, ◌/◌, ◌^◌, ◌<◌, ◌≤◌, List, [], ◌∷◌, length, min, max}
use Rattle.v_frame_raster.specs.Pixel.{PixelForm}
use Rattle.v_frame_raster.specs.Table.{Table, width_of, height_of}

-- The number of units that source pixel `i` and target pixel `x` both cover.
abbrev pub overlap : ℕ → ℕ → ℕ → ℕ → ℕ
overlap source target i x =
    min ((i + 1) * target) ((x + 1) * source) - max (i * target) (x * source)

-- The weighted sum of the items of a list. The weight depends on the index, and the first item has
-- index `i`.
abbrev pub weighted_from : {X : Type 0} → ℕ → (ℕ → ℕ) → (X → ℕ) → List X → ℕ
weighted_from i weight count [] = 0
weighted_from i weight count (x ∷ xs) =
    weight i * count x + weighted_from (i + 1) weight count xs

abbrev pub weighted : {X : Type 0} → (ℕ → ℕ) → (X → ℕ) → List X → ℕ
weighted weight count xs = weighted_from 0 weight count xs

-- The sum of the values of a row that target pixel `x` covers, each multiplied by the number of
-- covered units.
abbrev pub row_sum : {T : Type 0} → PixelForm T → ℕ → ℕ → List T → ℕ
row_sum form width x row = weighted (λ i. overlap (length row) width i x) form.value row

module _ {T : Type 0} (form : PixelForm T) (rows : Table T) (width height : ℕ) where
  -- The sum of the values in the area that the target pixel at column `x` of row `y` covers, each
  -- multiplied by the covered units in both directions.
  abbrev pub area_sum : ℕ → ℕ → ℕ
  area_sum x y = weighted (λ j. overlap (height_of rows) height j y) (row_sum form width x) rows

  -- The mean of the area that the target pixel at column `x` of row `y` covers, rounded to the
  -- nearest integer, halves up. The area has as many units as the source has pixels.
  abbrev pub area_mean : ℕ → ℕ → ℕ
  area_mean x y =
      let area = width_of rows * height_of rows in
      (area_sum x y + area / 2) / area

-- The source pixel that contains the center of target pixel `x`.
abbrev pub nearest : ℕ → ℕ → ℕ → ℕ
nearest source target x = (2 * x + 1) * source / (2 * target)

-- The sizes of a source and a target for which the units and the sums fit 64 bits.
pub record CanResize (source_width source_height width height : ℕ) : Type 0 where
  pub across : source_width * width < 2 ^ 64
  pub down : source_height * height < 2 ^ 64
  pub area : source_width * source_height ≤ 2 ^ 48
