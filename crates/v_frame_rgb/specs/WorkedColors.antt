-- Colors and samples computed by hand. Each line is proved by computation (`refl`).
use Rattle.std.specs.Prelude.{ℕ, ◌≡◌, [], ◌∷◌, refl}
use Rattle.v_frame_rgb.specs.Colors.{rgb_matrix_of, yuv_matrix_of, color_of, y_of, u_of, v_of}
use Rattle.v_frame_rgb.specs.Colors.{color_rows}
use Rattle.v_frame_rgb.specs.declared.color.Color.{Color}
use Rattle.v_frame_rgb.specs.declared.standard.Standard.TheVariants.{Bt601, Bt709, Bt2020}
use Rattle.v_frame_rgb.specs.declared.standard.ColorRange.TheVariants.{Limited, Full}

abbrev the_color : ℕ → ℕ → ℕ → Color
the_color red green blue = record { red = red; green = green; blue = blue }

-- BT.601, limited range: 255 / 219, 1.402 * 255 / 224, and so on, in units of 1/16384.
coefficients : rgb_matrix_of Bt601 Limited
    ≡ record {
      black = 16;
      luma = 19077;
      red_v = 26149;
      green_u = 6419;
      green_v = 13320;
      blue_u = 33050;
    }
coefficients = refl

-- BT.2020, full range: 2 * (1 - 0.2627) = 1.4746 and 2 * (1 - 0.0593) = 1.8814.
of_full_range : rgb_matrix_of Bt2020 Full
    ≡ record {
      black = 0;
      luma = 16384;
      red_v = 24160;
      green_u = 2696;
      green_v = 9361;
      blue_u = 30825;
    }
of_full_range = refl

white : color_of (rgb_matrix_of Bt601 Limited) 235 128 128 ≡ the_color 255 255 255
white = refl

black : color_of (rgb_matrix_of Bt601 Limited) 16 128 128 ≡ the_color 0 0 0
black = refl

red : color_of (rgb_matrix_of Bt601 Limited) 81 90 240 ≡ the_color 254 0 0
red = refl

red_of_high_definition : color_of (rgb_matrix_of Bt709 Limited) 63 102 240 ≡ the_color 255 1 0
red_of_high_definition = refl

clamped : color_of (rgb_matrix_of Bt601 Limited) 0 0 255 ≡ the_color 184 0 0
clamped = refl

of_jpeg : color_of (rgb_matrix_of Bt601 Full) 150 44 21 ≡ the_color 0 255 1
of_jpeg = refl

luma_of_red : y_of (yuv_matrix_of Bt601 Limited) (the_color 255 0 0) ≡ 81
luma_of_red = refl

chroma_u_of_red : u_of (yuv_matrix_of Bt601 Limited) (the_color 255 0 0) ≡ 90
chroma_u_of_red = refl

chroma_v_of_red : v_of (yuv_matrix_of Bt601 Limited) (the_color 255 0 0) ≡ 240
chroma_v_of_red = refl

luma_of_blue : y_of (yuv_matrix_of Bt601 Full) (the_color 0 0 255) ≡ 29
luma_of_blue = refl

chroma_u_of_blue : u_of (yuv_matrix_of Bt601 Full) (the_color 0 0 255) ≡ 255
chroma_u_of_blue = refl

chroma_v_of_blue : v_of (yuv_matrix_of Bt601 Full) (the_color 0 0 255) ≡ 107
chroma_v_of_blue = refl

luma_of_orange : y_of (yuv_matrix_of Bt709 Limited) (the_color 255 128 0) ≡ 141
luma_of_orange = refl

chroma_u_of_orange : u_of (yuv_matrix_of Bt709 Limited) (the_color 255 128 0) ≡ 59
chroma_u_of_orange = refl

chroma_v_of_orange : v_of (yuv_matrix_of Bt709 Limited) (the_color 255 128 0) ≡ 189
chroma_v_of_orange = refl

-- Two rows of two pixels, with the bytes red, green and blue.
picture : color_rows (rgb_matrix_of Bt601 Limited) (λ c. c.red ∷ c.green ∷ c.blue ∷ [])
    ((235 ∷ 81 ∷ []) ∷ (16 ∷ 235 ∷ []) ∷ []) ((128 ∷ 90 ∷ []) ∷ (128 ∷ 128 ∷ []) ∷ [])
    ((128 ∷ 240 ∷ []) ∷ (128 ∷ 128 ∷ []) ∷ [])
    ≡ (255 ∷ 255 ∷ 255 ∷ 254 ∷ 0 ∷ 0 ∷ []) ∷ (0 ∷ 0 ∷ 0 ∷ 255 ∷ 255 ∷ 255 ∷ []) ∷ []
picture = refl
