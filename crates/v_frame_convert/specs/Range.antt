-- Conversion of values between the limited range and the full range, as in ITU-R BT.601, BT.709 and
-- BT.2100. At 8 bits the limited range of luma is from 16 to 235. The limited range of chroma is
-- from 16 to 240, with the neutral value 128. At other depths all of these are multiplied by
-- 2 ^ (depth - 8). In the full range all values are used, and the neutral value of chroma is half
-- of 2 ^ depth.
use Rattle.std.specs.Prelude.{ℕ, ◌+◌, ◌-◌, ◌*◌, ◌/◌, ◌^◌, min}
use Rattle.v_frame.specs.Prelude.{PixelForm}
use Rattle.v_frame_convert.specs.Depth.{largest_value}
use Rattle.v_frame_convert.specs.declared.range.Component.{Component}
use Rattle.v_frame_convert.specs.declared.range.Component.TheVariants.{Luma, Chroma}

-- A quotient, rounded to the nearest integer, halves up.
abbrev pub rounded_quotient : ℕ → ℕ → ℕ
rounded_quotient a b = (a + b / 2) / b

-- The factor between the limits at 8 bits and the limits at this depth.
abbrev pub unit_of : ℕ → ℕ
unit_of depth = 2 ^ (depth - 8)

-- Luma from the limited range to the full range. Values below black count as black, and values
-- above white as white.
abbrev pub luma_in_full_range : ℕ → ℕ → ℕ
luma_in_full_range depth value =
    let largest = largest_value depth in
    min (rounded_quotient ((value - 16 * unit_of depth) * largest) (219 * unit_of depth)) largest

-- Chroma from the limited range to the full range: the distance from the neutral value is scaled.
-- The smallest values are clipped to 0.
abbrev pub chroma_in_full_range : ℕ → ℕ → ℕ
chroma_in_full_range depth value =
    let middle = 128 * unit_of depth in
    let span = 224 * unit_of depth in
    let largest = largest_value depth in
    min (rounded_quotient (value * largest + middle * span - middle * largest) span) largest

abbrev pub luma_in_limited_range : ℕ → ℕ → ℕ
luma_in_limited_range depth value =
    let largest = largest_value depth in
    16 * unit_of depth + rounded_quotient (min value largest * (219 * unit_of depth)) largest

abbrev pub chroma_in_limited_range : ℕ → ℕ → ℕ
chroma_in_limited_range depth value =
    let middle = 128 * unit_of depth in
    let span = 224 * unit_of depth in
    let largest = largest_value depth in
    rounded_quotient (min value largest * span + middle * largest - middle * span) largest

abbrev pub in_full_range : Component → ℕ → ℕ → ℕ
in_full_range Luma depth value = luma_in_full_range depth value
in_full_range Chroma depth value = chroma_in_full_range depth value

abbrev pub in_limited_range : Component → ℕ → ℕ → ℕ
in_limited_range Luma depth value = luma_in_limited_range depth value
in_limited_range Chroma depth value = chroma_in_limited_range depth value

-- The pixel whose value `change` returns for the value of another pixel.
abbrev pub pixel_by : {T : Type 0} → PixelForm T → (ℕ → ℕ) → T → T
pixel_by form change p = form.pixel_of (change (form.value p))
