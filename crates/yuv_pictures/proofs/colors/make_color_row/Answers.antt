-- The three rows that are read are rows of the tables.
use Rattle.std.proofs.Common.{length, sym, ◌∙◌}
use Rattle.v_frame_rgb.specs.Exact.{exact_of_pixels}
use Rattle.yuv_pictures.specs.Colors.{rgb_bytes}
use Rattle.yuv_pictures.proofs.Rows.{one_line}
use Rattle.yuv_pictures.proofs.colors.make_color_row.Goals as goal

pub returns : goal.returns
returns g c =
    let m = c.args.matrix.now in
    let color = exact_of_pixels m.standard m.range m.depth g.T.Pixel.form in
    let w = c.width-width.result in
    let wide = sym c.width-width.ensures.value in
    let made = rw (c.visible_region-luma.ensures.value, c.visible_region-blue.ensures.value, c.visible_region-red.ensures.value) at c.yuv444_to_rgb_exactly.ensures.table in
    one_line color rgb_bytes (length c.args.line.now) c.yuv444_to_rgb_exactly.new.buffer w c.args.k c.args.y.now c.args.u.now c.args.v.now
    c.visible_row-y_row.result.now c.visible_row-u_row.result.now c.visible_row-v_row.result.now
    c.visible_row-y_row.ensures.value c.visible_row-u_row.ensures.value c.visible_row-v_row.ensures.value
    (c.visible_row-y_row.ensures.wide ∙ wide)
    (c.visible_row-u_row.ensures.wide ∙ c.requires.u_wide ∙ wide)
    (c.visible_row-v_row.ensures.wide ∙ c.requires.v_wide ∙ wide)
    c.yuv444_to_rgb_exactly.auto.buffer made
