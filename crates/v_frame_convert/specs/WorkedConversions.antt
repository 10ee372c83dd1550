-- Conversions with results computed by hand. Each line is proved by computation (`refl`).
use Rattle.std.specs.Prelude.{ℕ, ◌≡◌, [], ◌∷◌, refl}
use Rattle.v_frame.specs.Prelude.{Table, one_byte, two_bytes, Yuv420, Yuv422, Yuv411, Yuv444}
use Rattle.v_frame.specs.Prelude.{Monochrome}
use Rattle.v_frame_convert.specs.Convert.{converted}
use Rattle.v_frame_convert.specs.Chroma.{upscaled}
use Rattle.v_frame_convert.specs.Depth.{at_depth, pixel_at_depth, pixel_of_depth}
use Rattle.v_frame_convert.specs.Frame.{scales_between}
use Rattle.v_frame_convert.specs.Range.{luma_in_full_range, chroma_in_full_range}
use Rattle.v_frame_convert.specs.Range.{luma_in_limited_range, chroma_in_limited_range}
use Rattle.v_frame_convert.specs.Scale.{scaled}
use Rattle.v_frame_convert.specs.declared.scale.Scale.TheVariants.{Quarter, Half, Same, Double}
use Rattle.v_frame_convert.specs.declared.scale.Scale.TheVariants.{Quadruple}

white_up : at_depth 8 10 255 ≡ 1020
white_up = refl

up_to_all_bits : at_depth 10 16 1023 ≡ 65472
up_to_all_bits = refl

-- 505 is 126.25 times 4, and 506 is 126.5 times 4.
down_below_a_half : at_depth 10 8 505 ≡ 126
down_below_a_half = refl

down_at_a_half : at_depth 10 8 506 ≡ 127
down_at_a_half = refl

-- 1022 is 255.5 times 4, and no 8-bit value is above 255.
down_at_the_end : at_depth 10 8 1022 ≡ 255
down_at_the_end = refl

above_its_depth : at_depth 10 8 65535 ≡ 255
above_its_depth = refl

above_its_depth_up : at_depth 10 12 1024 ≡ 4092
above_its_depth_up = refl

same_depth : at_depth 10 10 700 ≡ 700
same_depth = refl

abbrev two_rows : Table ℕ
two_rows = (16 ∷ 235 ∷ []) ∷ (0 ∷ 255 ∷ []) ∷ []

in_ten_bits : converted (converted (pixel_at_depth one_byte two_bytes 8 10)) two_rows
    ≡ (64 ∷ 940 ∷ []) ∷ (0 ∷ 1020 ∷ []) ∷ []
in_ten_bits = refl

black : luma_in_full_range 8 16 ≡ 0
black = refl

-- (126 - 16) * 255 / 219 is 128.08.
gray : luma_in_full_range 8 126 ≡ 128
gray = refl

white : luma_in_full_range 10 940 ≡ 1023
white = refl

above_white : luma_in_full_range 8 254 ≡ 255
above_white = refl

no_color : chroma_in_full_range 8 128 ≡ 128
no_color = refl

-- (16 - 128) * 255 / 224 + 128 is 0.5, and (240 - 128) * 255 / 224 + 128 is 255.5.
least_chroma : chroma_in_full_range 8 16 ≡ 1
least_chroma = refl

most_chroma : chroma_in_full_range 8 240 ≡ 255
most_chroma = refl

below_the_range : chroma_in_full_range 8 3 ≡ 0
below_the_range = refl

white_back : luma_in_limited_range 8 255 ≡ 235
white_back = refl

-- 16 + 128 * 219 / 255 is 125.93.
gray_back : luma_in_limited_range 8 128 ≡ 126
gray_back = refl

no_chroma_back : chroma_in_limited_range 10 0 ≡ 64
no_chroma_back = refl

most_chroma_back : chroma_in_limited_range 8 255 ≡ 240
most_chroma_back = refl

-- 2 by 1 pixels, enlarged to 3 by 2.
abbrev two_by_one : Table ℕ
two_by_one = (7 ∷ 8 ∷ []) ∷ []

repeated_twice : upscaled 2 2 3 2 two_by_one ≡ (7 ∷ 7 ∷ 8 ∷ []) ∷ (7 ∷ 7 ∷ 8 ∷ []) ∷ []
repeated_twice = refl

-- 3 by 3 pixels, halved to 2 by 2. The last column and the last row have no second one.
abbrev three_rows : Table ℕ
three_rows = (10 ∷ 20 ∷ 30 ∷ []) ∷ (11 ∷ 23 ∷ 31 ∷ []) ∷ (50 ∷ 51 ∷ 90 ∷ []) ∷ []

halves : scaled one_byte (λ v. v) Half Half 2 2 three_rows ≡ (16 ∷ 31 ∷ []) ∷ (51 ∷ 90 ∷ []) ∷ []
halves = refl

half_the_columns : scaled one_byte (λ v. v) Half Same 2 3 three_rows
    ≡ (15 ∷ 30 ∷ []) ∷ (17 ∷ 31 ∷ []) ∷ (51 ∷ 90 ∷ []) ∷ []
half_the_columns = refl

-- (10 + 20 + 30 + 30) / 4 is 22.5.
a_quarter_of_the_columns : scaled one_byte (λ v. v) Quarter Same 1 3 three_rows
    ≡ (23 ∷ []) ∷ (24 ∷ []) ∷ (70 ∷ []) ∷ []
a_quarter_of_the_columns = refl

-- Chroma of 4:1:1 converted to 4:2:0: columns are repeated, and rows are halved.
columns_twice : scaled one_byte (pixel_of_depth two_bytes 8 10) Double Half 5 2 three_rows
    ≡ (44 ∷ 44 ∷ 88 ∷ 88 ∷ 124 ∷ []) ∷ (200 ∷ 200 ∷ 204 ∷ 204 ∷ 360 ∷ []) ∷ []
columns_twice = refl

from_full_to_half : scales_between Yuv444 Yuv420 ≡ (Half, Half)
from_full_to_half = refl

from_half_to_a_quarter : scales_between Yuv420 Yuv411 ≡ (Half, Double)
from_half_to_a_quarter = refl

from_a_quarter_to_full : scales_between Yuv411 Yuv444 ≡ (Quadruple, Same)
from_a_quarter_to_full = refl

from_half_columns_to_half : scales_between Yuv422 Yuv420 ≡ (Same, Half)
from_half_columns_to_half = refl

from_no_color : scales_between Monochrome Yuv422 ≡ (Same, Same)
from_no_color = refl
