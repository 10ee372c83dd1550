-- Examples whose numbers were calculated with Python from the weights in the standards. Each one is
-- proved by computation (`refl`).
use Rattle.std.specs.Prelude.{ℕ, ◌≡◌, [], ◌∷◌, refl}
use Rattle.v_frame.specs.Prelude.{Table, one_byte, two_bytes, Yuv420, Yuv444}
use Rattle.v_frame_convert.specs.Prelude.{scaled, scales_between, pixel_of_depth}
use Rattle.v_frame_ops.specs.Prelude.{combined, difference_of}
use Rattle.v_frame_rgb.specs.Exact.{exact_color, exact_color_rows, exact_of_pixels}
use Rattle.v_frame_rgb.specs.declared.standard.ColorRange.TheVariants.{Limited, Full}
use Rattle.v_frame_rgb.specs.declared.standard.Standard.TheVariants.{Bt601, Bt709}
use Rattle.yuv_pictures.specs.Colors.{rgb_bytes}
use Rattle.yuv_pictures.specs.Gray.{gray_rows}

-- ---- gray

-- Samples of 8 bits do not change.
gray_of_bytes : gray_rows one_byte 8 ((0 ∷ 16 ∷ 255 ∷ []) ∷ []) ≡ (0 ∷ 16 ∷ 255 ∷ []) ∷ []
gray_of_bytes = refl

-- Samples of 10 bits are shifted left: 64 becomes 4096, and 1023 becomes 65472. The high byte is
-- first.
gray_of_ten_bits : gray_rows two_bytes 10 ((64 ∷ 1023 ∷ []) ∷ []) ≡ (16 ∷ 0 ∷ 255 ∷ 192 ∷ []) ∷ []
gray_of_ten_bits = refl

gray_of_sixteen_bits : gray_rows two_bytes 16 ((513 ∷ []) ∷ []) ≡ (2 ∷ 1 ∷ []) ∷ []
gray_of_sixteen_bits = refl

-- ---- colors

-- A picture of 2x2 pixels in 4:2:0, whose single chroma pixel is that of red.
abbrev red_luma : Table ℕ
red_luma = (16 ∷ 81 ∷ []) ∷ (145 ∷ 235 ∷ []) ∷ []

abbrev repeated_four : ℕ → Table ℕ
repeated_four sample =
    scaled one_byte (pixel_of_depth one_byte 8 8) (scales_between Yuv420 Yuv444).0
    (scales_between Yuv420 Yuv444).1 2 2 ((sample ∷ []) ∷ [])

chroma_of_four : repeated_four 90 ≡ (90 ∷ 90 ∷ []) ∷ (90 ∷ 90 ∷ []) ∷ []
chroma_of_four = refl

red_by_bt601 : exact_color_rows Bt601 Limited 8 one_byte rgb_bytes red_luma (repeated_four 90)
    (repeated_four 240)
    ≡ (179 ∷ 0 ∷ 0 ∷ 254 ∷ 0 ∷ 0 ∷ []) ∷ (255 ∷ 74 ∷ 74 ∷ 255 ∷ 179 ∷ 178 ∷ []) ∷ []
unfolding exact_color exact_of_pixels
red_by_bt601 = refl

-- Another standard or another range gives another red.
red_by_bt709 : exact_color_rows Bt709 Limited 8 one_byte rgb_bytes ((81 ∷ []) ∷ []) ((90 ∷ []) ∷ [])
    ((240 ∷ []) ∷ []) ≡ (255 ∷ 24 ∷ 0 ∷ []) ∷ []
unfolding exact_color exact_of_pixels
red_by_bt709 = refl

red_of_full_range : exact_color_rows Bt601 Full 8 one_byte rgb_bytes ((81 ∷ []) ∷ [])
    ((90 ∷ []) ∷ []) ((240 ∷ []) ∷ []) ≡ (238 ∷ 14 ∷ 14 ∷ []) ∷ []
unfolding exact_color exact_of_pixels
red_of_full_range = refl

-- Samples of 10 bits are not first converted to 8, which would give 130, 71 and 193.
deep_color : exact_color_rows Bt709 Limited 10 two_bytes rgb_bytes ((378 ∷ []) ∷ [])
    ((705 ∷ []) ∷ []) ((594 ∷ []) ∷ []) ≡ (128 ∷ 70 ∷ 193 ∷ []) ∷ []
unfolding exact_color exact_of_pixels
deep_color = refl

-- ---- differences

-- With a gain of 3, a difference of 20 gives 60, a difference of 100 exceeds 255, and no difference
-- is black.
difference_of_bytes : gray_rows one_byte 8 (combined (combined (difference_of one_byte 3 8))
    ((120 ∷ 200 ∷ 7 ∷ []) ∷ []) ((100 ∷ 100 ∷ 7 ∷ []) ∷ [])) ≡ (60 ∷ 255 ∷ 0 ∷ []) ∷ []
difference_of_bytes = refl

-- With a gain of 4, a difference of 3 in 10 bits gives 12, which is 768 in 16 bits.
difference_of_ten_bits : gray_rows two_bytes 10 (combined (combined (difference_of two_bytes 4 10))
    ((500 ∷ []) ∷ []) ((503 ∷ []) ∷ [])) ≡ (3 ∷ 0 ∷ []) ∷ []
difference_of_ten_bits = refl
