-- The parts of a report of `compare` that contain whole numbers.
use Rattle.std.specs.Prelude.{ℕ, ◌+◌, min, if◌then◌else◌, Bool, List, Option, Some, None, option_map, IfSome}
use Rattle.std.specs.Prelude.{IsSomeAnd}
use Rattle.v_frame.specs.Prelude.{PixelForm, Tables}
use Rattle.v_frame_measures.specs.Prelude.{measured, peak_of, ssim_of}
use Rattle.v_frame_measures.specs.declared.frames.FrameMeasure.{FrameMeasure}
use Rattle.yuv_reports.specs.Frames.{end_by_parts}
use Rattle.yuv_reports.specs.Texts.{EndsWith}
use Rattle.yuv_reports.specs.declared.comparison.Longer.{Longer}
use Rattle.yuv_reports.specs.declared.comparison.ReportForm.{ReportForm}
use Rattle.v_frame_streams.specs.Prelude.{most_frames}
use Rattle.v_frame_streams.specs.declared.comparison.Comparison.{Comparison}
use Rattle.v_frame_formats.specs.declared.difference.PixelDifference.{PixelDifference}
use Rattle.v_frame_streams.specs.declared.stream.Place.{Place}
use Rattle.v_frame_streams.specs.declared.stream.Place.TheVariants.{First}
use Rattle.v_frame_formats.specs.declared.sums.PlaneSums.{PlaneSums}

-- The sums of squared errors if `--exact` is given.
abbrev pub sums_asked : Bool → PlaneSums → Option PlaneSums
sums_asked exact sums = if exact then Some sums else None

-- The structural similarities of two frames with this bit depth.
abbrev pub similarities_of : {T : Type 0} → PixelForm T → ℕ → Tables T → Tables T → FrameMeasure
similarities_of form depth a b = measured (ssim_of form (peak_of depth)) a b

-- The number that a frame has in its file. `before` frames are skipped, and `number` counts the
-- compared frames from 1.
abbrev pub frame_number : ℕ → ℕ → ℕ
frame_number before number = min (before + number) most_frames

-- The first difference with the number that its frame has in the file. `before` frames are skipped.
abbrev pub difference_said : ℕ → ℕ × PixelDifference → ℕ × PixelDifference
difference_said before found = (frame_number before (found.0 + 1), found.1)

abbrev pub longer_said : Place → Longer
longer_said First = Longer.First
longer_said _ = Longer.Second

-- The end of a report. `before` frames precede the first one that was compared. In lines it has the
-- sums if they are requested, the first difference and the longer stream. In JSON it has the last
-- two, and in CSV it is empty.
abbrev pub report_end : ReportForm → Bool → ℕ → Comparison → List ℕ
report_end form exact before found =
    end_by_parts form (sums_asked exact found.errors)
    (option_map (difference_said before) found.difference) (option_map longer_said found.longer)

-- If the bytes of the writer were known, they now end with `end`.
abbrev pub EndsKnown : Option (List ℕ) → Option (List ℕ) → List ℕ → Type 0
EndsKnown has has' end = IfSome has (λ _. IsSomeAnd has' (EndsWith end))
