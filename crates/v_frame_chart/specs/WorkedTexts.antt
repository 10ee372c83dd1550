-- Short texts of charts that were derived by hand. Each one is proved by computation (`refl`).
use Rattle.std.specs.Prelude.{ℕ, ◌≡◌, ◌++◌, List, [], ◌∷◌, false, pos, negsuc, Option, Some, None, codes, flat_map, refl}
use Rattle.std.specs.Fmt.{digits}
use Rattle.std.specs.List.{range_with_len}
use Rattle.std.specs.Float.{round_with}
use Rattle.std.specs.Float.Ieee.{Float, fin, mul, of_int, to_unsigned}
use Rattle.std.specs.Str.{chars}
use lib.Utf8.{encode}
use Rattle.v_frame_chart.specs.Frames.{first_mark, mark_count, marked_frames}
use Rattle.v_frame_chart.specs.Lines.{circle_of, dots_text, mean_at, stroke_of}
use Rattle.v_frame_chart.specs.Places.{place_text, tenths_of}
use Rattle.v_frame_chart.specs.Scales.{label_of, last_digits, size_text}
use Rattle.v_frame_chart.specs.Words.{color_of, entry_of, legend_of, name_end, sample_of, text_end, text_head, text_of, title_of}
use Rattle.v_frame_chart.specs.declared.drawing.Series.{Series}
use Rattle.v_frame_chart.specs.declared.marks.Mark.{Mark}
use Rattle.v_frame_chart.specs.declared.scale.Power.TheVariants.{Times, Over}

-- The place 76.25 is equally near to two tenths, and is rounded up.
quarter : place_text (fin false 305 (negsuc 1)) ≡ codes "76.3"
unfolding tenths_of round_with mul of_int to_unsigned digits
quarter = refl

-- Labels are exact decimal numbers.
hundredths : label_of (pos 125) (Over 2) ≡ codes "1.25"
unfolding label_of size_text last_digits digits
hundredths = refl

below_zero : label_of (negsuc 4) (Over 2) ≡ codes "-0.05"
unfolding label_of size_text last_digits digits
below_zero = refl

thousands : label_of (pos 35) (Times 3) ≡ codes "35000"
unfolding label_of size_text digits
thousands = refl

very_large : label_of (pos 5) (Times 12) ≡ codes "5e12"
unfolding label_of size_text digits
very_large = refl

very_small : label_of (pos 2) (Over 10) ≡ codes "2e-10"
unfolding label_of size_text digits
very_small = refl

-- Of the frames 1 to 12, the even ones have marks. The first of them is one frame after frame 1.
even_frames : marked_frames 1 11 2 ≡ 1 ∷ 3 ∷ 5 ∷ 7 ∷ 9 ∷ 11 ∷ []
unfolding marked_frames first_mark mark_count
even_frames = refl

-- If the first frame is 0, both ends have marks.
both_ends : marked_frames 0 10 5 ≡ 0 ∷ 5 ∷ 10 ∷ []
unfolding marked_frames first_mark mark_count
both_ends = refl

no_frames : marked_frames 11 3 20 ≡ []
unfolding marked_frames first_mark mark_count
no_frames = refl

-- Three columns at 1, 2 and 3 pixels, with a gap before the last one.
one : Float
one = fin false 1 (pos 0)

two : Float
two = fin false 1 (pos 1)

three : Float
three = fin false 3 (pos 0)

abbrev drawn : List (Option Mark)
drawn =
    Some (record { x = one; least = three; mean = two; most = one })
    ∷ Some (record { x = two; least = three; mean = three; most = one })
    ∷ None ∷ Some (record { x = three; least = two; mean = one; most = one }) ∷ []

-- The line begins again after the gap.
line_with_gap : flat_map (mean_at drawn) (range_with_len 0 4)
    ≡ codes "M1.0 2.0L2.0 3.0M3.0 1.0"
unfolding one two three tenths_of round_with mul of_int to_unsigned digits
line_with_gap = refl

strokes : flat_map stroke_of drawn ≡ codes "M1.0 3.0V1.0M2.0 3.0V1.0M3.0 2.0V1.0"
unfolding one two three tenths_of round_with mul of_int to_unsigned digits
strokes = refl

-- Only the last column is between two gaps.
one_dot : dots_text drawn (codes "#d55e00")
    ≡ codes "<circle cx=\"3.0\" cy=\"1.0\" r=\"2\" fill=\"#d55e00\"/>\n"
unfolding one two three tenths_of round_with mul of_int to_unsigned digits dots_text circle_of
one_dot = refl

-- Names are escaped, and follow the colors of their series.
abbrev named : List ℕ → Series
named words = record {
  name = record { ref_ptr = (0, 0); now = words };
  values = record { ref_ptr = (0, 0); now = [] };
}

abbrev sample : List ℕ → List ℕ
sample color =
    codes "<tspan dx=\"20\" font-size=\"18\" font-weight=\"bold\" fill=\"" ++ color
    ++ codes "\">&#8212;</tspan> "

legend : legend_of (named (codes "Y") ∷ named (codes "<U>") ∷ [])
    ≡ codes "<text x=\"56\" y=\"33\">"
    ++ sample (codes "#0072b2") ++ codes "<tspan>Y</tspan>"
    ++ sample (codes "#d55e00") ++ codes "<tspan>&lt;U&gt;</tspan></text>\n"
unfolding legend_of text_head entry_of sample_of color_of name_end text_end chars encode
legend = refl

title : title_of (codes "a < b")
    ≡ codes "<text x=\"76\" y=\"16\" font-size=\"14\" font-weight=\"bold\">a &lt; b</text>\n"
unfolding title_of text_of text_head text_end chars encode
title = refl
