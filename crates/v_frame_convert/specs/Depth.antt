-- Conversion of values between bit depths.
use Rattle.std.specs.Prelude.{ℕ, ◌+◌, ◌-◌, ◌*◌, ◌/◌, ◌^◌, ◌≤◌, nat_le, min, if◌then◌else◌}
use Rattle.v_frame.specs.Prelude.{PixelForm}

-- Pixels of `bytes` bytes can hold values of this bit depth, and the depth is at least 8.
pub record DepthFits (bytes depth : ℕ) : Type 0 where
  pub low : 8 ≤ depth
  pub high : depth ≤ 8 * bytes

-- The largest value of a bit depth.
abbrev pub largest_value : ℕ → ℕ
largest_value depth = 2 ^ depth - 1

-- A value clipped to its depth and shifted left.
abbrev pub at_greater_depth : ℕ → ℕ → ℕ → ℕ
at_greater_depth from to value = min value (largest_value from) * 2 ^ (to - from)

-- A value rounded to the nearest integer of the smaller depth, halves up, and clipped.
abbrev pub at_smaller_depth : ℕ → ℕ → ℕ → ℕ
at_smaller_depth from to value =
    min ((value + 2 ^ (from - to - 1)) / 2 ^ (from - to)) (largest_value to)

-- A value of depth `from` at depth `to`. A value above the largest one of depth `from` counts as
-- the largest one.
abbrev pub at_depth : ℕ → ℕ → ℕ → ℕ
at_depth from to value =
    if nat_le from to then at_greater_depth from to value else at_smaller_depth from to value

-- A pixel at another bit depth, which may have another type.
abbrev pub pixel_at_depth : {S T : Type 0} → PixelForm S → PixelForm T → ℕ → ℕ → S → T
pixel_at_depth form other from to p = other.pixel_of (at_depth from to (form.value p))

-- The pixel of a value at another bit depth.
abbrev pub pixel_of_depth : {T : Type 0} → PixelForm T → ℕ → ℕ → ℕ → T
pixel_of_depth form from to value = form.pixel_of (at_depth from to value)
