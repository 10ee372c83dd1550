-- The report on two frames.
use Rattle.std.specs.Prelude.{ℕ, ◌≡◌, ◌+◌, List, Option, IfSome, IsSome, IsSomeAnd, IsTrue, is_some, min}
use Rattle.yuv_comparisons.specs.Reports.{frame_number, sums_asked}
use Rattle.yuv_comparisons.specs.declared.frame_report.FrameReport.{FrameReport}
use Rattle.yuv_reports.specs.Frames.{EndsWithFrame}
use Rattle.v_frame_streams.specs.Prelude.{most_frames}
use Rattle.v_frame_formats.specs.declared.sums.PlaneSums.{PlaneSums}

module _ {W : Type 0} (contents : W → Option (List ℕ)) (old new : FrameReport W) where
  -- The options of the report are unchanged, and if the bytes of its writer were known, they still
  -- are.
  pub record StaysAsked : Type 0 where
    pub form : new.report.form ≡ old.report.form
    pub lists_frames : new.report.lists_frames ≡ old.report.lists_frames
    pub scale : new.scale ≡ old.scale
    pub ssim : is_some new.ssim ≡ is_some old.ssim
    pub before : new.before ≡ old.before
    pub known : IsSome (contents old.out) → IsSome (contents new.out)

  -- Two frames with these errors were counted. If frames are listed, they were reported under the
  -- number of the frame in the first stream.
  pub record ReportsFrame (errors : PlaneSums) : Type 0 where
    pub stays : StaysAsked
    pub counted : new.frames ≡ min (old.frames + 1) most_frames
    pub said : IsTrue old.report.lists_frames
        → IfSome (contents old.out) (λ _. IsSomeAnd (contents new.out)
        (EndsWithFrame old.report.form (frame_number old.before new.frames)
        (sums_asked old.scale.exact errors)))
