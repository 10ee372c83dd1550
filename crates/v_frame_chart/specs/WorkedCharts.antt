-- Examples that were calculated by hand. Each one is proved by computation (`refl`).
use Rattle.std.specs.Prelude.{◌≡◌, List, [], ◌∷◌, false, true, length, pos, negsuc, Some, None, codes, refl}
use Rattle.std.specs.Float.{float_is_finite}
use Rattle.std.specs.Float.Ieee.{Float, add, div, fin, inf, lt, mul, nan, of_int, sub}
use Rattle.std.specs.Str.{chars}
use lib.Utf8.{encode}
use Rattle.v_frame_chart.specs.Columns.{column_of, columns_of, summary_of}
use Rattle.v_frame_chart.specs.Labels.{escaped_words}
use Rattle.v_frame_chart.specs.Marks.{place_of}

-- The numbers 1, 2 and 3.
abbrev one : Float
one = fin false 1 (pos 0)

abbrev two : Float
two = fin false 1 (pos 1)

abbrev three : Float
three = fin false 3 (pos 0)

-- Values that are infinite or not a number are left out.
of_finite_values : summary_of (three ∷ inf false ∷ one ∷ nan ∷ [])
    ≡ Some (record { least = one; mean = two; most = three })
unfolding float_is_finite lt add div of_int
of_finite_values = refl

of_none : summary_of (inf true ∷ nan ∷ []) ≡ None
unfolding float_is_finite
of_none = refl

-- Five values in two columns: the first has two, and the second three.
abbrev five : List Float
five = one ∷ two ∷ three ∷ two ∷ one ∷ []

first_column : column_of five 2 0 ≡ one ∷ two ∷ []
first_column = refl

second_column : column_of five 2 1 ≡ three ∷ two ∷ one ∷ []
second_column = refl

-- There are no more columns than values.
one_each : length (columns_of five 100) ≡ 5
one_each = refl

-- On an axis from 1 at place 2 to 3 at place 1, the value 2 is at place 1.5.
half_way : place_of (record { low = one; high = three; start = two; end = one }) two
    ≡ fin false 3 (negsuc 0)
unfolding add div mul sub
half_way = refl

escapes : escaped_words (codes "1 < 2 & \"3\"") ≡ codes "1 &lt; 2 &amp; &quot;3&quot;"
unfolding chars encode
escapes = refl
