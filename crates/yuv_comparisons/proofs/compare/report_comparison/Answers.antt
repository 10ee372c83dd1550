-- The report ends with the text that was written last.
use Rattle.std.proofs.Common.{◌∙◌, ap, inl, inr, refl, sym}
use Rattle.std.proofs.lemmas.Bool.{cases_eq}
use Rattle.std.specs.Prelude.{unwrap_or}
use Rattle.v_frame.specs.Prelude.{one_byte, two_bytes}
use Rattle.v_frame_y4m.specs.Color.{depth_of}
use Rattle.yuv_comparisons.specs.declared.measures.Scale.{Scale}
use Rattle.yuv_comparisons.proofs.Reporting.{report_ends, stays_asked, IsAsked}
use Rattle.yuv_reports.specs.declared.comparison.Report.{Report}
use Rattle.yuv_comparisons.proofs.compare.report_comparison.Goals as goal

pub returns-clause-ended : goal.returns-clause-ended
returns-clause-ended g c =
    let contents = g.W.Write.contents in
    let options = c.args.options.now in
    let said = options.form in
    let start = unwrap_or options.skip 0 in
    let first = c.new-observer.result in
    let mid = c.compare_sources.new.observer in
    let form = ap (λ (r : Report). r.form) c.new-observer.ensures.report ∙ c.new-report.ensures.form in
    let exact = ap (λ (s : Scale). s.exact) c.new-observer.ensures.scale ∙ c.scale_of-scale.ensures.exact in
    let before = c.new-observer.ensures.before ∙ c.first_taken-before.ensures in
    let stays : IsAsked contents said first.scale start first → IsAsked contents said first.scale start mid =
    elim (cases_eq (depth_of c.args.first.now.header.color) 8) [
      | inl eight ↦ λ asked. stays_asked contents one_byte said first.scale start _ first mid
          (c.in-Ok.ensures.bytes_taken eight).1 asked
      | inr more ↦ λ asked. stays_asked contents two_bytes said first.scale start _ first mid
          (c.in-Ok.ensures.words_taken more).1 asked
    ] in
    report_ends contents (contents c.args.out) c.args.out c.into_out.result first mid c.end-2.new.self said options.exact
    start c.in-Ok.found refl c.new-observer.ensures.out form exact before (sym c.into_out.ensures) stays
    c.in_ok-end.ensures
