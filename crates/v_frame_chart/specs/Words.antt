-- The texts of the picture: the head, the title, the names of the axes, and the legend.
use Rattle.std.specs.Prelude.{ℕ, ◌%◌, List, [], ◌∷◌, ◌++◌, codes, flat_map, slice_index_or}
use Rattle.std.specs.List.{enumerate_from}
use Rattle.v_frame_chart.specs.Labels.{escaped_words}
use Rattle.v_frame_chart.specs.declared.drawing.Series.{Series}

-- Colors that people with color blindness can distinguish: those of Okabe and Ito, without yellow,
-- which is hard to see on white.
abbrev pub colors : List (List ℕ)
colors =
    codes "#0072b2" ∷ codes "#d55e00" ∷ codes "#009e73" ∷ codes "#cc79a7" ∷ codes "#e69f00"
    ∷ codes "#56b4e9" ∷ codes "#000000" ∷ []

-- The color of series `k`.
unfoldable pub color_of : ℕ → List ℕ
color_of k = slice_index_or colors (k % 7) []

-- A text element with these attributes.
unfoldable pub text_head : List ℕ → List ℕ
text_head attributes = codes "<text " ++ (attributes ++ codes ">")

unfoldable pub text_end : List ℕ
text_end = codes "</text>\n"

unfoldable pub text_of : List ℕ → List ℕ → List ℕ
text_of attributes words = text_head attributes ++ (escaped_words words ++ text_end)

-- The head of the file: a white picture of 960 by 200 pixels.
unfoldable pub opening : List ℕ
opening =
    codes "<svg xmlns=\"http://www.w3.org/2000/svg\" width=\"960\" height=\"200\" "
    ++ (codes "viewBox=\"0 0 960 200\" font-family=\"sans-serif\" font-size=\"12\" "
    ++ codes "fill=\"#333333\">\n<rect width=\"960\" height=\"200\" fill=\"#ffffff\"/>\n")

unfoldable pub closing : List ℕ
closing = codes "</svg>\n"

-- The title, the unit above the labels of the axis of numbers, and the name of the axis of frames
-- below it.
unfoldable pub title_of : List ℕ → List ℕ
title_of title = text_of (codes "x=\"76\" y=\"16\" font-size=\"14\" font-weight=\"bold\"") title

unfoldable pub unit_of : List ℕ → List ℕ
unit_of unit = text_of (codes "x=\"68\" y=\"33\" text-anchor=\"end\"") unit

unfoldable pub frame_word : List ℕ
frame_word = text_of (codes "x=\"500\" y=\"194\" text-anchor=\"middle\"") (codes "frame")

unfoldable pub head_text : List ℕ → List ℕ → List ℕ
head_text title unit = opening ++ (title_of title ++ (unit_of unit ++ frame_word))

-- The legend: a sample of the color of each series, followed by its name.
unfoldable pub sample_of : List ℕ → List ℕ
sample_of color =
    codes "<tspan dx=\"20\" font-size=\"18\" font-weight=\"bold\" fill=\""
    ++ (color ++ codes "\">&#8212;</tspan> <tspan>")

unfoldable pub name_end : List ℕ
name_end = codes "</tspan>"

unfoldable pub entry_of : ℕ × Series → List ℕ
entry_of (k, series) =
    sample_of (color_of k) ++ (escaped_words series.name.now ++ name_end)

unfoldable pub legend_of : List Series → List ℕ
legend_of series =
    text_head (codes "x=\"56\" y=\"33\"")
    ++ (flat_map entry_of (enumerate_from 0 series) ++ text_end)
