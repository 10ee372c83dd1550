-- The chroma rows that are written are the visible rows of their planes, which have the size of the luma plane.
use Rattle.std.proofs.Common.{◌≡◌, sym, ◌∙◌}
use Rattle.v_frame_rgb.proofs.convert.rgb_to_yuv444.Goals as goal

pub returns-clause-chroma_u : goal.returns-clause-chroma_u
returns-clause-chroma_u g c =
    let luma = c.visible_mut-y_rows.ensures in let lent = c.visible_mut-u_rows.ensures in
    let wide : c.visible_mut-u_rows.result.width ≡ c.visible_mut-y_rows.result.width =
    lent.width ∙ c.requires.u_wide ∙ sym luma.width in
    let high : c.visible_mut-u_rows.result.height ≡ c.visible_mut-y_rows.result.height =
    lent.height ∙ c.requires.u_high ∙ sym luma.height in
    let shown = lent.written c.rgb_to_yuv444.new.u (c.rgb_to_yuv444.ensures.u_rest.count) in
    cc (shown, wide, high, c.rgb_to_yuv444.ensures.chroma_u, luma.width)

pub returns-clause-chroma_v : goal.returns-clause-chroma_v
returns-clause-chroma_v g c =
    let luma = c.visible_mut-y_rows.ensures in let lent = c.visible_mut-v_rows.ensures in
    let wide : c.visible_mut-v_rows.result.width ≡ c.visible_mut-y_rows.result.width =
    lent.width ∙ c.requires.v_wide ∙ sym luma.width in
    let high : c.visible_mut-v_rows.result.height ≡ c.visible_mut-y_rows.result.height =
    lent.height ∙ c.requires.v_high ∙ sym luma.height in
    let shown = lent.written c.rgb_to_yuv444.new.v (c.rgb_to_yuv444.ensures.v_rest.count) in
    cc (shown, wide, high, c.rgb_to_yuv444.ensures.chroma_v, luma.width)
