-- The axis of numbers contains each finite value.
use Rattle.std.specs.Prelude.{◌&&◌, Bool, List, flat_map, false, true}
use Rattle.std.specs.List.{fold}
use Rattle.std.specs.Float.{◌<ᶠ◌, ◌≤ᶠ◌}
use Rattle.std.specs.Float.Ieee.{Float, inf, le, lt}
use Rattle.v_frame_chart.specs.Columns.{finite, greater, lesser}
use Rattle.v_frame_chart.specs.Scales.{value_at}
use Rattle.v_frame_chart.specs.declared.drawing.Series.{Series}
use Rattle.v_frame_chart.specs.declared.scale.Scale.{Scale}

-- The values of all series.
abbrev pub all_values : List Series → List Float
all_values series = flat_map (λ one. one.values.now) series

-- The least and the greatest of the finite values.
unfoldable pub least_of : List Series → Float
least_of series = fold lesser (inf false) (finite (all_values series))

unfoldable pub most_of : List Series → Float
most_of series = fold greater (inf true) (finite (all_values series))

-- Whether two numbers lie between the ends of a scale, and the second end is greater than the
-- first.
unfoldable pub is_between : Scale → Float → Float → Bool
is_between scale low high =
    lt (value_at scale 0) (value_at scale scale.count)
    && (le (value_at scale 0) low && le high (value_at scale scale.count))

-- The scale rises, and the finite values of all series lie between its ends.
pub record HasRoom (scale : Scale) (series : List Series) : Type 0 where
  pub rises : value_at scale 0 <ᶠ value_at scale scale.count
  pub low : value_at scale 0 ≤ᶠ least_of series
  pub high : most_of series ≤ᶠ value_at scale scale.count
