-- The values of a series, collected in columns.
use Rattle.std.specs.Prelude.{ℕ, ◌+◌, ◌*◌, ◌/◌, ◌==◌, if◌then◌else◌, true, false, List, length, map, min, pos, Option, Some, None}
use Rattle.std.specs.Prelude.{slice_range}
use Rattle.std.specs.List.{filter, fold, range_with_len}
use Rattle.std.specs.Float.{float_is_finite, float_zero}
use Rattle.std.specs.Float.Ieee.{Float, inf, binary64, add, div, lt, of_int}
use Rattle.v_frame_chart.specs.declared.columns.Summary.{Summary}

-- The lesser and the greater of two numbers.
abbrev pub lesser : Float → Float → Float
lesser x y = if lt y x then y else x

abbrev pub greater : Float → Float → Float
greater x y = if lt x y then y else x

-- The finite values of a list.
abbrev pub finite : List Float → List Float
finite values = filter float_is_finite values

-- The sum of the values, added in their order.
abbrev pub total : List Float → Float
total values = fold (add binary64) float_zero values

-- The least, the mean and the greatest of finite values, if there are any.
abbrev pub summary_of_finite : List Float → Option Summary
summary_of_finite values =
    if length values == 0 then None
    else Some (record {
      least = fold lesser (inf false) values;
      mean = div binary64 (total values) (of_int binary64 (pos (length values)));
      most = fold greater (inf true) values;
    })

abbrev pub summary_of : List Float → Option Summary
summary_of values = summary_of_finite (finite values)

-- The index of the first value of column `k`, if `values` values are divided into `columns`
-- columns.
abbrev pub start_of : ℕ → ℕ → ℕ → ℕ
start_of values columns k = k * values / columns

-- The values of a column.
abbrev pub column_of : List Float → ℕ → ℕ → List Float
column_of values columns k =
    let count = length values in
    slice_range values (start_of count columns k) (start_of count columns (k + 1))

-- The columns that are drawn of a series, at most `room` and no more than there are values.
abbrev pub columns_of : List Float → ℕ → List (Option Summary)
columns_of values room =
    let columns = min (length values) room in
    map (λ k. summary_of (column_of values columns k)) (range_with_len 0 columns)
