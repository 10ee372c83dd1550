-- The places of the values of a column in the picture.
use Rattle.std.specs.Prelude.{ℕ, ◌+◌, pos, List, length, map, slice_index_or, Option, None, option_map}
use Rattle.std.specs.List.{range_with_len}
use Rattle.std.specs.Float.{float_one, float_two}
use Rattle.std.specs.Float.Ieee.{Float, binary64, add, sub, mul, div, of_int}
use Rattle.v_frame_chart.specs.Columns.{start_of}
use Rattle.v_frame_chart.specs.declared.axes.Axis.{Axis}
use Rattle.v_frame_chart.specs.declared.columns.Summary.{Summary}
use Rattle.v_frame_chart.specs.declared.marks.Mark.{Mark}

-- The place of a value on an axis, in proportion to its distance from the ends.
abbrev pub place_of : Axis → Float → Float
place_of axis value =
    let part = div binary64 (sub binary64 value axis.low) (sub binary64 axis.high axis.low) in
    add binary64 axis.start (mul binary64 part (sub binary64 axis.end axis.start))

-- The frame in the middle of a column.
abbrev pub middle_of : ℕ → ℕ → ℕ → Float
middle_of values columns k =
    let frame : ℕ → Float = λ n. of_int binary64 (pos n) in
    div binary64 (add binary64 (frame (start_of values columns k))
    (sub binary64 (frame (start_of values columns (k + 1))) float_one)) (float_two binary64)

-- The mark of a column.
abbrev pub mark_of : Axis → Axis → Float → Summary → Mark
mark_of across down frame summary =
    record {
      x = place_of across frame;
      least = place_of down summary.least;
      mean = place_of down summary.mean;
      most = place_of down summary.most;
    }

-- The mark of column `k`, if it has a value.
abbrev pub mark_at : Axis → Axis → ℕ → List (Option Summary) → ℕ → Option Mark
mark_at across down values summaries k =
    let middle = middle_of values (length summaries) k in
    option_map (mark_of across down middle) (slice_index_or summaries k None)

-- The marks of all columns.
abbrev pub marks_of : Axis → Axis → ℕ → List (Option Summary) → List (Option Mark)
marks_of across down values summaries =
    map (mark_at across down values summaries) (range_with_len 0 (length summaries))
