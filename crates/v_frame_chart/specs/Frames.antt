-- The axis of frames. Its marks are the frames whose numbers are multiples of a step.
use Rattle.std.specs.Prelude.{ℕ, ◌≡◌, ◌+◌, ◌-◌, ◌*◌, ◌/◌, ◌%◌, ◌^◌, ◌≤◌, ◌<◌, ◌==◌, ◌++◌, codes, decimal}
use Rattle.std.specs.Prelude.{flat_map, if◌then◌else◌, map, List, pos}
use Rattle.std.specs.List.{range_with_len}
use Rattle.std.specs.Float.{float_zero}
use Rattle.std.specs.Float.Ieee.{binary64, of_int}
use Rattle.v_frame_chart.specs.Marks.{place_of}
use Rattle.v_frame_chart.specs.Places.{tenths_of, tenths_text}
use Rattle.v_frame_chart.specs.declared.axes.Axis.{Axis}

-- The axis from the first frame, at the left, to the frame `span` frames after it.
unfoldable pub across_of : ℕ → Axis
across_of span =
    record {
      low = float_zero;
      high = of_int binary64 (pos span);
      start = of_int binary64 (pos 76);
      end = of_int binary64 (pos 924);
    }

-- The numbers 1, 2, 5, 10, 20, 50 and so on.
unfoldable pub round_number : ℕ → ℕ
round_number k = 10 ^ (k / 3) * (if k % 3 == 0 then 1 else (if k % 3 == 1 then 2 else 5))

-- The step is the least of these numbers that fits into the span at most eight times.
pub record IsFrameStep (span step : ℕ) : Type 0 where
  pub index : ℕ
  pub round : step ≡ round_number index
  pub few : span ≤ 8 * step
  pub least : (k : ℕ) → k < index → 8 * round_number k < span

-- The number of frames between the first frame and the first multiple of the step.
unfoldable pub first_mark : ℕ → ℕ → ℕ
first_mark first step = (step - first % step) % step

-- The number of multiples of the step.
unfoldable pub mark_count : ℕ → ℕ → ℕ → ℕ
mark_count first span step = (span + step - first_mark first step) / step

-- The mark and the number of a frame.
unfoldable pub frame_words : ℕ → ℕ → List ℕ
frame_words tenths number =
    codes "<path d=\"M" ++ (tenths_text tenths
    ++ (codes " 160V165\" stroke=\"#333333\"/>\n<text x=\"" ++ (tenths_text tenths
    ++ (codes "\" y=\"177\" text-anchor=\"middle\">" ++ (decimal number
    ++ codes "</text>\n")))))

unfoldable pub frame_mark : Axis → ℕ → ℕ → List ℕ
frame_mark across first index =
    frame_words (tenths_of (place_of across (of_int binary64 (pos index)))) (first + index)

-- Both axes, without marks.
unfoldable pub axis_lines : List ℕ
axis_lines = codes "<path d=\"M76 50V160H924\" fill=\"none\" stroke=\"#333333\"/>\n"

-- The multiples of the step, each as the number of frames after the first one.
unfoldable pub marked_frames : ℕ → ℕ → ℕ → List ℕ
marked_frames first span step =
    map (λ k. first_mark first step + k * step) (range_with_len 0 (mark_count first span step))

unfoldable pub frames_text : ℕ → ℕ → ℕ → ℕ → List ℕ
frames_text first span last step =
    axis_lines ++ flat_map (frame_mark (across_of span) first) (marked_frames first last step)
