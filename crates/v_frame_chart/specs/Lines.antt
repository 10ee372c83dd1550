-- The drawing of a series: a band, a line through the means, and dots.
use Rattle.std.specs.Prelude.{ℕ, zero, suc, ◌+◌, ◌||◌, if◌then◌else◌, Bool, List, [], ◌++◌, codes, flat_map, is_some, length}
use Rattle.std.specs.Prelude.{slice_index_or, Option, Some, None}
use Rattle.std.specs.List.{range_with_len}
use Rattle.v_frame_chart.specs.Places.{place_text}
use Rattle.v_frame_chart.specs.declared.marks.Mark.{Mark}

-- The mark before column `k` and the mark after it. The first column has none before it, and the
-- last has none after it.
abbrev pub mark_before : List (Option Mark) → ℕ → Option Mark
mark_before drawn zero = None
mark_before drawn (suc k) = slice_index_or drawn k None

abbrev pub mark_after : List (Option Mark) → ℕ → Option Mark
mark_after drawn k = slice_index_or drawn (k + 1) None

abbrev pub path_end : List ℕ
path_end = codes "\"/>\n"

-- A stroke from the least to the greatest value of a column.
abbrev pub stroke_of : Option Mark → List ℕ
stroke_of None = []
stroke_of (Some mark) =
    codes "M" ++ (place_text mark.x ++ (codes " " ++ (place_text mark.least
    ++ (codes "V" ++ place_text mark.most))))

-- The band: a stroke for each column.
unfoldable pub band_head : List ℕ → List ℕ
band_head color =
    codes "<path fill=\"none\" stroke=\"" ++ (color ++ codes "\" stroke-opacity=\"0.3\" d=\"")

unfoldable pub band_text : List (Option Mark) → List ℕ → List ℕ
band_text drawn color = band_head color ++ (flat_map stroke_of drawn ++ path_end)

-- The mean of a column: a line from the mean of the previous column if that has a value, and the
-- start of a new line otherwise.
abbrev pub mean_part : Option Mark → Bool → List ℕ
mean_part None joined = []
mean_part (Some mark) joined =
    (if joined then codes "L" else codes "M")
    ++ (place_text mark.x ++ (codes " " ++ place_text mark.mean))

abbrev pub mean_at : List (Option Mark) → ℕ → List ℕ
mean_at drawn k = mean_part (slice_index_or drawn k None) (is_some (mark_before drawn k))

-- The line through the means.
unfoldable pub means_head : List ℕ → List ℕ
means_head color =
    codes "<path fill=\"none\" stroke=\"" ++ (color
    ++ codes "\" stroke-width=\"1.5\" stroke-linecap=\"round\" stroke-linejoin=\"round\" d=\"")

unfoldable pub means_text : List (Option Mark) → List ℕ → List ℕ
means_text drawn color =
    means_head color ++ (flat_map (mean_at drawn) (range_with_len 0 (length drawn)) ++ path_end)

-- A dot at a mean.
unfoldable pub circle_of : Mark → List ℕ → List ℕ
circle_of mark color =
    codes "<circle cx=\"" ++ (place_text mark.x ++ (codes "\" cy=\"" ++ (place_text mark.mean
    ++ (codes "\" r=\"2\" fill=\"" ++ (color ++ path_end)))))

-- A dot for a column that has a value and whose neighbors have none.
abbrev pub dot_part : Option Mark → Bool → List ℕ → List ℕ
dot_part None joined color = []
dot_part (Some mark) joined color =
    if joined then [] else circle_of mark color

abbrev pub is_joined : List (Option Mark) → ℕ → Bool
is_joined drawn k = is_some (mark_before drawn k) || is_some (mark_after drawn k)

abbrev pub dot_at : List (Option Mark) → List ℕ → ℕ → List ℕ
dot_at drawn color k = dot_part (slice_index_or drawn k None) (is_joined drawn k) color

unfoldable pub dots_text : List (Option Mark) → List ℕ → List ℕ
dots_text drawn color = flat_map (dot_at drawn color) (range_with_len 0 (length drawn))

-- The complete drawing of a series. It has a band if its columns have more than one value.
unfoldable pub drawn_text : List (Option Mark) → Bool → List ℕ → List ℕ
drawn_text drawn banded color =
    (if banded then band_text drawn color else [])
    ++ (means_text drawn color ++ dots_text drawn color)
