-- Tables whose pixels are repeated across and down.
use Rattle.std.proofs.Common.{ℕ, ◌≡◌, ◌+◌, ◌-◌, ◌*◌, ◌/◌, ◌%◌, ◌<◌, ◌≤◌, List, length, map, take, Option, Some, None}
use Rattle.std.proofs.Common.{slice_get, option_map, option_and_then, refl, sym, ◌∙◌, ap, arith, length-take-le}
use Rattle.std.proofs.Math.Nat.{mod-lt, div-lt_iff_lt-mul}
use Rattle.std.proofs.lemmas.List.{length-map}
use Rattle.std.proofs.lemmas.Nat.{div-add-mod'}
use Rattle.std.proofs.lemmas.Option.{slice_get-map as get-map}
use Rattle.v_frame.specs.Prelude.{Table, pixel_at}
use Rattle.v_frame_raster.proofs.tables.Lists.{same_by_slice_get, slice_get-take, slice_get-map}
use Rattle.v_frame_convert.specs.Chroma.{repeated, upscaled, IsSubsampledSize}
use Rattle.v_frame_convert.proofs.Repeated.{length-repeated, slice_get-repeated}

-- The blocks cover the whole size.
pub blocks_cover : {size ratio items : ℕ} → IsSubsampledSize size ratio items → size ≤ items * ratio
blocks_cover {size} {ratio} {items} counted =
    let some : 0 < ratio = counted.divides in
    let n = size + (ratio - 1) in
    let parts : n / ratio * ratio + n % ratio ≡ n = div-add-mod' n ratio in
    let rest : n % ratio < ratio = mod-lt n some in
    rw (counted.count) (omega (arith, parts, rest))

-- Each column (or row) lies in one of the blocks.
pub block_within : {size ratio items : ℕ} → IsSubsampledSize size ratio items → {x : ℕ} → x < size → x / ratio < items
block_within {size} {ratio} {items} counted {x} within =
    (div-lt_iff_lt-mul counted.divides).1 (omega (arith, blocks_cover counted))

module _ {T : Type 0} (ratio_x width : ℕ) where
  -- A row of `width` pixels in which each source pixel is repeated.
  abbrev pub widened : List T → List T
  widened row = take width (repeated ratio_x row)

  pub row_is_widened : (row source : List T) → IsSubsampledSize width ratio_x (length source) → length row ≡ width
      → ((k : ℕ) → k < length row → slice_get row k ≡ slice_get source (k / ratio_x)) → row ≡ widened source
  row_is_widened row source counted long each =
      let enough : width ≤ length (repeated ratio_x source) =
      omega (arith, length-repeated ratio_x source, blocks_cover counted) in
      same_by_slice_get row (widened source) (long ∙ sym (length-take-le width (repeated ratio_x source) enough))
      (λ k h. each k h ∙ sym (slice_get-take width (repeated ratio_x source) k (omega (arith, h, long))
      ∙ slice_get-repeated ratio_x source k counted.divides))

  module _ (ratio_y height : ℕ) (rows : Table T) where
    pub upscaled_row : (y : ℕ) (source : List T) → 0 < ratio_y → y < height → slice_get rows (y / ratio_y) ≡ Some source
        → slice_get (upscaled ratio_x ratio_y width height rows) y ≡ Some (widened source)
    upscaled_row y source some high is =
        slice_get-take height (repeated ratio_y (map widened rows)) y high
        ∙ slice_get-repeated ratio_y (map widened rows) y some ∙ slice_get-map widened rows (y / ratio_y) source is

    pub height_upscaled : IsSubsampledSize height ratio_y (length rows)
        → length (upscaled ratio_x ratio_y width height rows) ≡ height
    height_upscaled counted =
        let count : length (map widened rows) ≡ length rows = length-map rows widened in
        let all : length (repeated ratio_y (map widened rows)) ≡ length rows * ratio_y =
        length-repeated ratio_y (map widened rows) ∙ ap (λ n. n * ratio_y) count in
        length-take-le height (repeated ratio_y (map widened rows)) (omega (arith, all, blocks_cover counted))

    pixel_widened : (x : ℕ) → 0 < ratio_x → x < width → (row : Option (List T))
        → option_and_then (λ r. slice_get r x) (option_map widened row)
        ≡ option_and_then (λ r. slice_get r (x / ratio_x)) row
    pixel_widened x some wide None = refl
    pixel_widened x some wide (Some row) =
        slice_get-take width (repeated ratio_x row) x wide ∙ slice_get-repeated ratio_x row x some

    pub pixel_upscaled : 0 < ratio_x → 0 < ratio_y → (x y : ℕ) → x < width → y < height
        → pixel_at (upscaled ratio_x ratio_y width height rows) x y ≡ pixel_at rows (x / ratio_x) (y / ratio_y)
    pixel_upscaled across down x y wide high =
        ap (option_and_then (λ r. slice_get r x)) (slice_get-take height (repeated ratio_y (map widened rows)) y high
        ∙ slice_get-repeated ratio_y (map widened rows) y down ∙ get-map widened rows (y / ratio_y))
        ∙ pixel_widened x across wide (slice_get rows (y / ratio_y))
