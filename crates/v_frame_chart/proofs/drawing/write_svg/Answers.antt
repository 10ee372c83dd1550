-- The text that was written is the chart.
use Rattle.std.proofs.Common.{◌≡◌, ◌∙◌, rules, string_bytes}
use Rattle.v_frame_chart.specs.Charts.{chart_text}
use Rattle.v_frame_chart.proofs.Charted.{charted, none_written, on_err_of}
use Rattle.v_frame_chart.proofs.drawing.write_svg.Goals as goal

pub returns-in_err-push_chart-clause-error : goal.returns-in_err-push_chart-clause-error
returns-in_err-push_chart-clause-error g c =
    on_err_of c.from_residual.result (none_written c.args.chart.now c.scale_of-scale.result c.frame_step-step.result
    (g.W.Write.contents c.args.out.now) c.scale_of-scale.ensures
    (rw (c.span_of.ensures.value) at c.frame_step-step.ensures.step))

pub returns-clause-ok : goal.returns-clause-ok
returns-clause-ok g c =
    let chart = c.args.chart.now in let scale = c.scale_of-scale.result in let step = c.frame_step-step.result in
    let drawn : string_bytes c.push_chart.new.text ≡ chart_text chart scale step = search rules in
    let is = charted chart scale step _ c.scale_of-scale.ensures
    (rw (c.span_of.ensures.value) at c.frame_step-step.ensures.step) (c.as_bytes.ensures.value ∙ drawn) in
    (c.as_bytes.result.now, is, c.in_ok-send.ensures.ok)

pub returns-in_err-send-clause-error : goal.returns-in_err-send-clause-error
returns-in_err-send-clause-error g c =
    let chart = c.args.chart.now in let scale = c.scale_of-scale.result in let step = c.frame_step-step.result in
    let drawn : string_bytes c.push_chart.new.text ≡ chart_text chart scale step = search rules in
    let is = charted chart scale step _ c.scale_of-scale.ensures
    (rw (c.span_of.ensures.value) at c.frame_step-step.ensures.step) (c.as_bytes.ensures.value ∙ drawn) in
    on_err_of c.from_residual-in_err-send.result (c.as_bytes.result.now, is, c.in_err-send.ensures.error)
