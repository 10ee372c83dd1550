-- The axis of numbers: the places of its marks, and the texts of its labels.
use Rattle.std.specs.Prelude.{ℕ, zero, suc, ◌+◌, ◌-◌, ◌*◌, ◌/◌, ◌%◌, ◌^◌, ◌+ℤ◌, ◌++◌, if◌then◌else◌, nat_le, ◌==◌, codes, decimal, flat_map, List, ℤ, pos, unsigned_abs}
use Rattle.std.specs.Fmt.{sign_text}
use Rattle.std.specs.Int.{is_negative}
use Rattle.std.specs.List.{range_with_len}
use Rattle.std.specs.Float.{float_one}
use Rattle.std.specs.Float.Ieee.{Float, binary64, div, mul, of_int}
use Rattle.v_frame_chart.specs.Marks.{place_of}
use Rattle.v_frame_chart.specs.Places.{tenths_of, tenths_text}
use Rattle.v_frame_chart.specs.Words.{text_end}
use Rattle.v_frame_chart.specs.declared.axes.Axis.{Axis}
use Rattle.v_frame_chart.specs.declared.scale.Digit.{Digit}
use Rattle.v_frame_chart.specs.declared.scale.Digit.TheVariants.{One, Two, Five}
use Rattle.v_frame_chart.specs.declared.scale.Power.{Power}
use Rattle.v_frame_chart.specs.declared.scale.Power.TheVariants.{Times, Over}
use Rattle.v_frame_chart.specs.declared.scale.Scale.{Scale}

abbrev pub digit_size : Digit → ℕ
digit_size One = 1
digit_size Two = 2
digit_size Five = 5

-- The whole number of mark `k`. The value of the mark is this number multiplied by the power of
-- ten.
unfoldable pub number_at : Scale → ℕ → ℤ
number_at scale k = scale.low +ℤ pos (k * digit_size scale.digit)

-- A power of ten as a float, exact up to 10 ^ 22.
unfoldable pub ten_power : ℕ → Float
ten_power zero = float_one
ten_power (suc p) = mul binary64 (ten_power p) (of_int binary64 (pos 10))

-- The float nearest to a whole number times a power of ten.
unfoldable pub value_of : ℤ → Power → Float
value_of n (Times p) = mul binary64 (of_int binary64 n) (ten_power p)
value_of n (Over p) = div binary64 (of_int binary64 n) (ten_power p)

abbrev pub value_at : Scale → ℕ → Float
value_at scale k = value_of (number_at scale k) scale.power

-- The axis from its first mark, at the bottom, to its last, at the top.
unfoldable pub down_of : Scale → Axis
down_of scale =
    record {
      low = value_at scale 0;
      high = value_at scale scale.count;
      start = of_int binary64 (pos 160);
      end = of_int binary64 (pos 50);
    }

-- The last `p` digits of a number.
unfoldable pub last_digits : ℕ → ℕ → List ℕ
last_digits m p = flat_map (λ k. decimal (m / 10 ^ (p - 1 - k) % 10)) (range_with_len 0 p)

-- A number with an exponent, or 0 without one.
abbrev pub exponent_text : ℕ → List ℕ → ℕ → List ℕ
exponent_text m letters p =
    if m == 0 then codes "0" else (decimal m ++ (letters ++ decimal p))

-- A size as text: with a decimal point if the power of ten is small, and with an exponent
-- otherwise.
unfoldable pub size_text : ℕ → Power → List ℕ
size_text m (Times p) =
    if nat_le p 9 then decimal (m * 10 ^ p) else exponent_text m (codes "e") p
size_text m (Over p) =
    if nat_le p 9 then (decimal (m / 10 ^ p) ++ (codes "." ++ last_digits m p))
    else exponent_text m (codes "e-") p

unfoldable pub label_of : ℤ → Power → List ℕ
label_of n power = sign_text (is_negative n) ++ size_text (unsigned_abs n) power

-- A line across the picture at a mark, and its label.
unfoldable pub line_head : ℕ → List ℕ
line_head tenths =
    codes "<path d=\"M76 " ++ (tenths_text tenths
    ++ (codes "H924\" stroke=\"#dddddd\"/>\n<text x=\"68\" y=\"" ++ (tenths_text tenths
    ++ codes "\" dy=\"4\" text-anchor=\"end\">")))

unfoldable pub grid_line : Scale → ℕ → List ℕ
grid_line scale k =
    line_head (tenths_of (place_of (down_of scale) (value_at scale k)))
    ++ (label_of (number_at scale k) scale.power ++ text_end)

-- A line for each mark, including both ends.
unfoldable pub grid_text : Scale → List ℕ
grid_text scale = flat_map (grid_line scale) (range_with_len 0 (scale.count + 1))
