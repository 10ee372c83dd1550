-- An object with frames ends in the same way as a complete report.
use Rattle.std.proofs.Common.{string_bytes, subst, sym}
use Rattle.std.specs.Prelude.{OnOk}
use Rattle.yuv_reports.specs.Frames.{end_of_report}
use Rattle.yuv_reports.specs.Texts.{EndsWith}
use Rattle.yuv_reports.specs.declared.comparison.ReportForm.{ReportForm}
use Rattle.yuv_reports.proofs.comparison.Report.end_broken.Goals as goal

pub returns-clause-closed : goal.returns-clause-closed
returns-clause-closed c =
    λ is some. subst (λ (f : ReportForm). OnOk c.push_summary.result (EndsWith (end_of_report f c.args.found.now)
    (string_bytes c.push_summary.new.text))) (sym is) c.push_summary.ensures
