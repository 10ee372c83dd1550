-- Marks at the top of a chart, for infinite values.
use Rattle.std.specs.Prelude.{ℕ, ◌+◌, ◌*◌, ◌/◌, ◌%◌, ◌++◌, ◌&&◌, ◌||◌, Bool, false, if◌then◌else◌, not, max, min}
use Rattle.std.specs.Prelude.{List, [], codes, decimal, flat_map, length}
use Rattle.std.specs.List.{fold, range_with_len}
use Rattle.std.specs.Float.{float_is_finite, float_zero}
use Rattle.std.specs.Float.Ieee.{Float, lt}
use Rattle.v_frame_chart.specs.Columns.{column_of}
use Rattle.v_frame_chart.specs.Lines.{path_end}
use Rattle.v_frame_chart.specs.Marks.{middle_of, place_of}
use Rattle.v_frame_chart.specs.Places.{tenths_of, tenths_text}
use Rattle.v_frame_chart.specs.Words.{color_of}
use Rattle.v_frame_chart.specs.declared.axes.Axis.{Axis}

-- Whether the value is infinite and above 0.
abbrev pub is_endless : Float → Bool
is_endless value = lt float_zero value && not (float_is_finite value)

-- Whether one of the values is infinite and above 0.
abbrev pub has_endless : List Float → Bool
has_endless values = fold (λ found value. found || is_endless value) false values

-- The width of a mark in pixels: the width of a column, and at most 12.
abbrev pub mark_width : ℕ → ℕ
mark_width columns = min (848 / max columns 1 + 1) 12

-- The distance of the row of marks of series `k` from the upper side, in pixels. There are three
-- rows.
abbrev pub row_of : ℕ → ℕ
row_of k = 38 + 3 * (k % 3)

-- A mark that is three pixels high.
unfoldable pub top_mark : ℕ → ℕ → List ℕ
top_mark tenths row = codes "M" ++ (tenths_text tenths ++ (codes " " ++ (decimal row ++ codes "v3")))

abbrev pub endless_part : Bool → ℕ → ℕ → List ℕ
endless_part is_there tenths row = if is_there then top_mark tenths row else []

-- A mark for column `j`, if it has an infinite value.
abbrev pub endless_at : Axis → List Float → ℕ → ℕ → ℕ → List ℕ
endless_at across values columns row j =
    endless_part (has_endless (column_of values columns j))
    (tenths_of (place_of across (middle_of (length values) columns j))) row

unfoldable pub endless_head : List ℕ → ℕ → List ℕ
endless_head color width =
    codes "<path fill=\"none\" stroke=\"" ++ (color ++ (codes "\" stroke-width=\""
    ++ (decimal width ++ codes "\" d=\"")))

-- The row of marks of series `k`.
unfoldable pub endless_row : Axis → List Float → ℕ → ℕ → List ℕ
endless_row across values columns k =
    endless_head (color_of k) (mark_width columns)
    ++ (flat_map (endless_at across values columns (row_of k)) (range_with_len 0 columns) ++ path_end)

-- The row of marks of series `k`, if the series has an infinite value.
abbrev pub endless_text : Axis → List Float → ℕ → ℕ → List ℕ
endless_text across values columns k =
    if has_endless values then endless_row across values columns k else []
