-- A kind of colors as C specifies it: the numbers of a standard, of a range and of an order of
-- bytes.
use Rattle.std.specs.Prelude.{ℕ, ◌==◌, Bool, ◌&&◌, if◌then◌else◌, List, [], ◌∷◌, nat_lt, slice_index}
use Rattle.v_frame_rgb.specs.Prelude.{Color, ColorRange, Standard, RgbMatrix, YuvMatrix}
use Rattle.v_frame_rgb.specs.Prelude.{rgb_matrix_of, yuv_matrix_of}
use Rattle.v_frame_rgb.specs.declared.standard.Standard.TheVariants.{Bt601, Bt709, Bt2020}
use Rattle.v_frame_rgb.specs.declared.standard.ColorRange.TheVariants.{Limited, Full}
use Rattle.v_frame_slices.specs.declared.colors.ColorChoice.{ColorChoice}

-- Whether the numbers are valid. The standards are BT.601, BT.709 and BT.2020. The ranges are
-- limited and full. The orders begin with red, green and blue or with blue, green and red, each
-- without and with a fourth byte.
abbrev pub is_choice : ColorChoice → Bool
is_choice choice = nat_lt choice.standard 3 && (nat_lt choice.range 2 && nat_lt choice.order 4)

abbrev pub standard_by : ℕ → Standard
standard_by number = if number == 0 then Bt601 else (if number == 1 then Bt709 else Bt2020)

abbrev pub range_by : ℕ → ColorRange
range_by number = if number == 0 then Limited else Full

abbrev pub matrix_by : ColorChoice → RgbMatrix
matrix_by choice = rgb_matrix_of (standard_by choice.standard) (range_by choice.range)

abbrev pub yuv_matrix_by : ColorChoice → YuvMatrix
yuv_matrix_by choice = yuv_matrix_of (standard_by choice.standard) (range_by choice.range)

abbrev pub size_by : ℕ → ℕ
size_by order = if nat_lt order 2 then 3 else 4

abbrev pub bytes_by : ℕ → Color → List ℕ
bytes_by order color =
    if order == 0 then color.red ∷ color.green ∷ color.blue ∷ []
    else (if order == 1 then color.blue ∷ color.green ∷ color.red ∷ []
    else (if order == 2 then color.red ∷ color.green ∷ color.blue ∷ 255 ∷ []
    else color.blue ∷ color.green ∷ color.red ∷ 255 ∷ []))

-- The color of a pixel, from the indexes of its bytes for red, green and blue.
abbrev pub color_from : ℕ → ℕ → ℕ → List ℕ → Color
color_from red green blue pixel =
    record {
      red = slice_index pixel red;
      green = slice_index pixel green;
      blue = slice_index pixel blue;
    }

-- The color of a pixel's bytes. A fourth byte is ignored.
abbrev pub color_by : ℕ → List ℕ → Color
color_by order =
    if order == 0 then color_from 0 1 2
    else (if order == 1 then color_from 2 1 0
    else (if order == 2 then color_from 0 1 2 else color_from 2 1 0))
