-- The report on one frame and the report on all frames, in each form.
use Rattle.std.specs.Prelude.{ℕ, ◌≡◌, ◌∷◌, ◌++◌, [], Bool, true, false, List, Option, Some, None, codes, decimal}
use Rattle.v_frame_formats.specs.Prelude.{letter_of}
use Rattle.v_frame_formats.specs.declared.difference.PixelDifference.{PixelDifference}
use Rattle.v_frame_formats.specs.declared.sums.PlaneSums.{PlaneSums}
use Rattle.yuv_reports.specs.Sums.{difference_line, end_of_frame, longer_line, sums_line}
use Rattle.yuv_reports.specs.declared.comparison.Comparison.{Comparison}
use Rattle.yuv_reports.specs.declared.comparison.Longer.{Longer}
use Rattle.yuv_reports.specs.declared.comparison.Longer.TheVariants.{First, Second}
use Rattle.yuv_reports.specs.declared.comparison.ReportForm.{ReportForm}
use Rattle.yuv_reports.specs.declared.comparison.ReportForm.TheVariants.{Lines, Csv, Json}

-- ---- one frame

-- The text before the measures of the frame with this number.
abbrev pub frame_begin : ReportForm → ℕ → List ℕ
frame_begin Lines number = codes "n:" ++ (decimal number ++ codes " ")
frame_begin Csv number = decimal number ++ codes ","
frame_begin Json number = codes "    {\"frame\": " ++ (decimal number ++ codes ", ")

-- The text between a frame and the one before it, or before the first frame.
abbrev pub separator : ReportForm → Bool → List ℕ
separator Lines first = []
separator Csv first = []
separator Json true = 10 ∷ []
separator Json false = codes "," ++ (10 ∷ [])

-- A frame with this number was appended: the number, some measures, and the sums if they are
-- reported.
abbrev pub AppendsFrame : ReportForm → ℕ → Option PlaneSums → List ℕ → List ℕ → Type 0
AppendsFrame form number sums old new =
    (values : List ℕ)
    × (new ≡ old ++ (frame_begin form number ++ (values ++ end_of_frame form sums)))

-- The frame was appended after the text that separates it from the one before it.
abbrev pub AppendsNext : ReportForm → Bool → ℕ → Option PlaneSums → List ℕ → List ℕ → Type 0
AppendsNext form first number sums old new =
    AppendsFrame form number sums (old ++ separator form first) new

-- The text ends with a frame with this number.
abbrev pub EndsWithFrame : ReportForm → ℕ → Option PlaneSums → List ℕ → Type 0
EndsWithFrame form number sums text =
    (front : List ℕ) × AppendsFrame form number sums front text

-- ---- all frames, as members of an object

abbrev pub place_members : ℕ → List ℕ → ℕ → ℕ → List ℕ
place_members frame plane x y =
    codes "{\"frame\": "
    ++ (decimal frame
    ++ (codes ", \"plane\": \""
    ++ (plane
    ++ (codes "\", \"column\": "
    ++ (decimal x ++ (codes ", \"row\": " ++ (decimal y ++ codes ", ")))))))

abbrev pub sample_object : ℕ → PixelDifference → List ℕ
sample_object frame found =
    place_members frame (letter_of found.component) found.x found.y
    ++ (codes "\"first\": "
    ++ (decimal found.first ++ (codes ", \"second\": " ++ (decimal found.second ++ codes "}"))))

abbrev pub difference_object : Option (ℕ × PixelDifference) → List ℕ
difference_object None = codes "null"
difference_object (Some found) = sample_object found.0 found.1

-- The last member of the object, with this value, and the end of the object.
abbrev pub longer_as : List ℕ → List ℕ
longer_as value =
    codes "," ++ (10 ∷ (codes "  \"longer\": " ++ (value ++ (10 ∷ (codes "}" ++ (10 ∷ []))))))

abbrev pub longer_member : Option Longer → List ℕ
longer_member None = longer_as (codes "null")
longer_member (Some First) = longer_as (codes "\"first\"")
longer_member (Some Second) = longer_as (codes "\"second\"")

abbrev pub json_end : Option (ℕ × PixelDifference) → Option Longer → List ℕ
json_end difference longer =
    codes ","
    ++ (10
    ∷ (codes "  \"first_difference\": " ++ (difference_object difference ++ longer_member longer)))

-- The member for a count of 0, and the end of the object.
abbrev pub no_frames : List ℕ
no_frames = codes "  \"count\": 0" ++ (10 ∷ (codes "}" ++ (10 ∷ [])))

-- ---- the end of a report

-- The report on all frames after its last float. A table has no such report, because each of its
-- rows is a frame.
abbrev pub end_by_parts : ReportForm → Option PlaneSums → Option (ℕ × PixelDifference)
    → Option Longer
    → List ℕ
end_by_parts Lines sums difference longer =
    sums_line sums ++ (difference_line difference ++ longer_line longer)
end_by_parts Csv sums difference longer = []
end_by_parts Json sums difference longer = json_end difference longer

abbrev pub end_of_report : ReportForm → Comparison → List ℕ
end_of_report form found = end_by_parts form found.measures.sums found.difference found.longer
