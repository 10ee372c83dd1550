-- The report on the frame was written.
use Rattle.std.proofs.Common.{◌≡◌, ◌∙◌, ◌+◌, List, Option, ℕ, ap, is_some, subst, sym}
use Rattle.std.specs.Prelude.{IsTrue, min}
use Rattle.std.specs.String.{string_bytes}
use Rattle.std.specs.Io.KnownBytes.{Appends}
use Rattle.yuv_comparisons.specs.FrameReports.{ReportsFrame}
use Rattle.yuv_comparisons.specs.Reports.{frame_number, sums_asked}
use Rattle.yuv_comparisons.specs.declared.measures.Scale.{Scale}
use Rattle.yuv_comparisons.proofs.Reporting.{frame_known, on_ok_also, still_known}
use Rattle.yuv_reports.specs.Frames.{EndsWithFrame}
use Rattle.v_frame_streams.specs.Prelude.{most_frames}
use Rattle.yuv_reports.specs.declared.comparison.Report.{Report}
use Rattle.v_frame_formats.specs.declared.sums.PlaneSums.{PlaneSums}
use Rattle.yuv_comparisons.proofs.frame_report.FrameReportFrameObserver.take.Goals as goal

pub returns-in-Ok-clause-taken : goal.returns-in-Ok-clause-taken
returns-in-Ok-clause-taken g c =
    let contents = g.W.Write.contents in
    let old = c.args.self.now in
    let new = c.write.new.self in
    let asked = c.push_frame.new.self in
    let errors = c.args.errors.now in
    let measured = c.similarities-ssim.ensures in
    let pushed = c.in-Ok.ensures in
    let wrote = c.write.ensures in
    let text = string_bytes asked.text in
    let same_out = ap (λ o. contents o) (pushed.out ∙ measured.out) in
    let counted : new.frames ≡ min (old.frames + 1) most_frames = wrote.frames ∙ pushed.frames ∙ measured.frames
    ∙ c.saturating_add-self.ensures in
    let number = ap (λ n. frame_number old.before n) (sym (wrote.frames ∙ pushed.frames)) in
    let start = ap (λ n. frame_number n c.similarities-ssim.new.self.frames) measured.before ∙ number in
    let said = subst (λ (r : Report). IsTrue r.lists_frames → EndsWithFrame r.form
    (frame_number c.similarities-ssim.new.self.before c.similarities-ssim.new.self.frames)
    c.measures-measures.result.sums text) measured.report pushed.said in
    let sums = c.measures-measures.ensures.sums ∙ ap (λ (s : Scale). sums_asked s.exact errors) measured.scale in
    let reported = sums_asked old.scale.exact errors in
    on_ok_also c.write.result
    (Appends (contents asked.out) (contents new.out) text)
    (ReportsFrame contents old new errors)
    (λ appended.
    let from_old = subst (λ (h : Option (List ℕ)). Appends h (contents new.out) text) same_out appended in
    record {
      stays = record {
        form = ap (λ (r : Report). r.form) wrote.report ∙ pushed.form ∙ ap (λ (r : Report). r.form) measured.report;
        lists_frames = ap (λ (r : Report). r.lists_frames) wrote.report ∙ pushed.lists_frames
            ∙ ap (λ (r : Report). r.lists_frames) measured.report;
        scale = wrote.scale ∙ pushed.scale ∙ measured.scale;
        ssim = ap (λ o. is_some o) wrote.ssim ∙ ap (λ o. is_some o) pushed.ssim ∙ measured.stays;
        before = wrote.before ∙ pushed.before ∙ measured.before;
        known = still_known (contents old.out) (contents new.out) text from_old;
      };
      counted = counted;
      said = λ lists. frame_known old.report.form (frame_number old.before new.frames) reported
          (contents old.out) (contents new.out) text from_old
          (subst (λ (n : ℕ). EndsWithFrame old.report.form n reported text) start
          (subst (λ (s : Option PlaneSums). EndsWithFrame old.report.form
          (frame_number c.similarities-ssim.new.self.before c.similarities-ssim.new.self.frames) s text) sums
          (said lists)));
    }) wrote.written
