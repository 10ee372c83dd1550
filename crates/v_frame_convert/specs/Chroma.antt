-- Tables enlarged by integer ratios, as chroma planes are when the chroma format changes.
use Rattle.std.specs.Prelude.{ℕ, ◌≡◌, ◌+◌, ◌-◌, ◌/◌, ◌<◌, List, map, take, replicate}
use Rattle.std.specs.Prelude.{flat_map}
use Rattle.v_frame.specs.Prelude.{Table}

-- `items` is `size / ratio`, rounded up: the number of columns (or rows) of a subsampled plane.
pub record IsSubsampledSize (size ratio items : ℕ) : Type 0 where
  pub divides : 0 < ratio
  pub count : items ≡ (size + (ratio - 1)) / ratio

-- Each item of a list, repeated `ratio` times.
abbrev pub repeated : {X : Type 0} → ℕ → List X → List X
repeated ratio xs = flat_map (λ x. replicate ratio x) xs

-- A table with each pixel repeated `ratio_x` times across and `ratio_y` times down, cut to `width`
-- by `height` pixels.
abbrev pub upscaled : {T : Type 0} → ℕ → ℕ → ℕ → ℕ → Table T → Table T
upscaled ratio_x ratio_y width height rows =
    take height (repeated ratio_y (map (λ row. take width (repeated ratio_x row)) rows))
