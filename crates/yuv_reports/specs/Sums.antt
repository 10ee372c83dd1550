-- The sums of squared errors in a report, and the text after them.
use Rattle.std.specs.Prelude.{ℕ, ◌∷◌, ◌++◌, [], if◌then◌else◌, Bool, List, Option, Some, None, codes, decimal}
use Rattle.v_frame_formats.specs.Prelude.{letter_of}
use Rattle.v_frame_formats.specs.declared.difference.PixelDifference.{PixelDifference}
use Rattle.v_frame_formats.specs.declared.sums.PlaneSums.{PlaneSums}
use Rattle.yuv_reports.specs.declared.comparison.Comparison.{Comparison}
use Rattle.yuv_reports.specs.declared.comparison.Longer.{Longer}
use Rattle.yuv_reports.specs.declared.comparison.Longer.TheVariants.{First, Second}
use Rattle.yuv_reports.specs.declared.comparison.ReportForm.{ReportForm}
use Rattle.yuv_reports.specs.declared.comparison.ReportForm.TheVariants.{Lines, Csv, Json}

-- A text and a number, or no text if there is no number.
abbrev pub number_after : List ℕ → Option ℕ → List ℕ
number_after before None = []
number_after before (Some number) = before ++ decimal number

-- Each sum after its text.
abbrev pub sums_after : List ℕ → List ℕ → List ℕ → PlaneSums → List ℕ
sums_after y u v sums =
    number_after y (Some sums.y) ++ (number_after u sums.u ++ number_after v sums.v)

-- ---- lines

-- The end of the line of a frame: its sums if they are reported, and a line feed.
abbrev pub frame_end : Option PlaneSums → List ℕ
frame_end None = 10 ∷ []
frame_end (Some sums) =
    sums_after (codes " sse_y:") (codes " sse_u:") (codes " sse_v:") sums ++ (10 ∷ [])

-- The line with the sums over all frames.
abbrev pub sums_line : Option PlaneSums → List ℕ
sums_line None = []
sums_line (Some sums) =
    codes "squared errors:"
    ++ (sums_after (codes " Y ") (codes ", U ") (codes ", V ") sums ++ (10 ∷ []))

-- The line that states the first difference.
abbrev pub difference_line : Option (ℕ × PixelDifference) → List ℕ
difference_line None = codes "first difference: none" ++ (10 ∷ [])
difference_line (Some (frame, found)) =
    codes "first difference: frame "
    ++ (decimal frame
    ++ (codes ", plane "
    ++ (letter_of found.component
    ++ (codes ", column "
    ++ (decimal found.x
    ++ (codes ", row "
    ++ (decimal found.y
    ++ (codes ", "
    ++ (decimal found.first ++ (codes " and " ++ (decimal found.second ++ (10 ∷ []))))))))))))

-- The line that states which stream has more frames.
abbrev pub longer_line : Option Longer → List ℕ
longer_line None = []
longer_line (Some First) = codes "length: the first stream has more frames" ++ (10 ∷ [])
longer_line (Some Second) = codes "length: the second stream has more frames" ++ (10 ∷ [])

-- The report on all frames after its last float.
abbrev pub comparison_end : Comparison → List ℕ
comparison_end found =
    sums_line found.measures.sums
    ++ (difference_line found.difference ++ longer_line found.longer)

-- ---- comma-separated values

-- The names of the columns. Structural similarity and sums have columns only if they are reported.
abbrev pub head_row : Bool → Bool → List ℕ
head_row ssim sums =
    codes "frame,mse,mse_y,mse_u,mse_v,psnr,psnr_y,psnr_u,psnr_v"
    ++ ((if ssim then codes ",ssim,ssim_y,ssim_u,ssim_v" else [])
    ++ ((if sums then codes ",sse_y,sse_u,sse_v" else []) ++ (10 ∷ [])))

abbrev pub sum_cell : Option ℕ → List ℕ
sum_cell None = codes ","
sum_cell (Some sum) = codes "," ++ decimal sum

abbrev pub row_end : Option PlaneSums → List ℕ
row_end None = 10 ∷ []
row_end (Some sums) =
    sum_cell (Some sums.y) ++ (sum_cell sums.u ++ (sum_cell sums.v ++ (10 ∷ [])))

-- ---- JSON

abbrev pub members_end : Option PlaneSums → List ℕ
members_end None = []
members_end (Some sums) =
    codes "\"squared_errors\": {\"y\": "
    ++ (decimal sums.y
    ++ (number_after (codes ", \"u\": ") sums.u
    ++ (number_after (codes ", \"v\": ") sums.v ++ codes "}")))

-- ---- all forms

-- The beginning of the report, before all frames.
abbrev pub begin_of : ReportForm → Bool → Bool → List ℕ
begin_of Lines ssim sums = []
begin_of Csv ssim sums = head_row ssim sums
begin_of Json ssim sums = codes "{" ++ (10 ∷ codes "  \"frames\": [")

-- The end of the report on a frame.
abbrev pub end_of_frame : ReportForm → Option PlaneSums → List ℕ
end_of_frame Lines sums = frame_end sums
end_of_frame Csv sums = row_end sums
end_of_frame Json sums = members_end sums ++ codes "}"
