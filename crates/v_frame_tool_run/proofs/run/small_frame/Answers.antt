-- The request to the builder is a luma plane of 4 by 2 pixels.
use Rattle.std.proofs.Common.{ap, ◌∙◌}
use Rattle.v_frame.specs.Prelude.{FrameRequest}
use Rattle.v_frame_tool_run.proofs.Texts.{blank_shows}
use Rattle.v_frame_tool_run.proofs.run.small_frame.Goals as goal

pub returns-in-Ok-clause-ok : goal.returns-in-Ok-clause-ok
returns-in-Ok-clause-ok c =
    let asked = c.luma_padding_bottom-builder.ensures ∙ ap (λ (r : FrameRequest). record r { pad_bottom = 0 })
    (c.luma_padding_top.ensures
    ∙ ap (λ (r : FrameRequest). record r { pad_top = 1 }) (c.luma_padding_right.ensures
    ∙ ap (λ (r : FrameRequest). record r { pad_right = 1 }) c.luma_padding_left.ensures)) in
    let wide = ap (λ (r : FrameRequest). r.width) asked ∙ c.new.ensures.size.0 in
    let high = ap (λ (r : FrameRequest). r.height) asked ∙ c.new.ensures.size.1 in
    let format = ap (λ (r : FrameRequest). r.subsampling) asked ∙ c.new.ensures.format.0 in
    blank_shows c.luma_padding_bottom-builder.result c.in-Ok.frame wide high format c.in-Ok.ensures.blank
