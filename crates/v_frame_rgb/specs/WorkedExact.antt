-- Colors of samples with more than 8 bits. The numbers were computed in Python with fractions. Each
-- line is proved by computation (`refl`).
use Rattle.std.specs.Prelude.{ℕ, ◌≡◌, [], ◌∷◌, refl}
use Rattle.v_frame.specs.Prelude.{two_bytes}
use Rattle.v_frame_rgb.specs.Exact.{exact_color, exact_color_rows, exact_of_pixels, levels_at}
use Rattle.v_frame_rgb.specs.Standards.{levels_of}
use Rattle.v_frame_rgb.specs.declared.color.Color.{Color}
use Rattle.v_frame_rgb.specs.declared.standard.Standard.TheVariants.{Bt601, Bt709, Bt2020}
use Rattle.v_frame_rgb.specs.declared.standard.ColorRange.TheVariants.{Limited, Full}

abbrev the_color : ℕ → ℕ → ℕ → Color
the_color red green blue = record { red = red; green = green; blue = blue }

-- The levels at 8 bits are those of the standards.
levels_of_limited_range : levels_at Limited 8 ≡ levels_of Limited
levels_of_limited_range = refl

levels_of_full_range : levels_at Full 8 ≡ levels_of Full
levels_of_full_range = refl

white : exact_color Bt601 Limited 10 940 512 512 ≡ the_color 255 255 255
unfolding exact_color
white = refl

black : exact_color Bt2020 Limited 10 64 512 512 ≡ the_color 0 0 0
unfolding exact_color
black = refl

white_of_full_range : exact_color Bt2020 Full 16 65535 32768 32768 ≡ the_color 255 255 255
unfolding exact_color
white_of_full_range = refl

-- 128.2, 70.2 and 193.3. A conversion to 8-bit samples first would give 130, 71 and 193.
rounded_once : exact_color Bt709 Limited 10 378 705 594 ≡ the_color 128 70 193
unfolding exact_color
rounded_once = refl

-- 42.5 is rounded up.
upwards_at_a_half : exact_color Bt709 Limited 9 105 256 256 ≡ the_color 43 43 43
unfolding exact_color
upwards_at_a_half = refl

-- 185.3, -72.3 and -276.8.
clamped_below : exact_color Bt601 Limited 10 0 0 1023 ≡ the_color 185 0 0
unfolding exact_color
clamped_below = refl

-- 320.1, 145.9 and 64.03.
clamped_above : exact_color Bt2020 Full 12 3000 1000 3500 ≡ the_color 255 146 64
unfolding exact_color
clamped_above = refl

red_of_eight_bits : exact_color Bt601 Limited 8 81 90 240 ≡ the_color 254 0 0
unfolding exact_color
red_of_eight_bits = refl

-- A row of two pixels, with the bytes red, green and blue.
picture : exact_color_rows Bt709 Limited 10 two_bytes (λ c. c.red ∷ c.green ∷ c.blue ∷ [])
    ((378 ∷ 940 ∷ []) ∷ []) ((705 ∷ 512 ∷ []) ∷ []) ((594 ∷ 512 ∷ []) ∷ [])
    ≡ (128 ∷ 70 ∷ 193 ∷ 255 ∷ 255 ∷ 255 ∷ []) ∷ []
unfolding exact_color exact_of_pixels
picture = refl
