-- One more row is written. After the last row, the file is complete.
use Rattle.std.proofs.Common.{◌≡◌, ◌≤◌, take, length, ap, ◌∙◌, arith, take_all, length-take-le}
use Rattle.std.proofs.lemmas.Grind.{common_steps}
use Rattle.v_frame_rgb.specs.Exact.{exact_color_rows, exact_of_pixels}
use Rattle.v_frame_rgb.proofs.ColorLemmas.{length-color_rows_by}
use Rattle.v_frame_png.specs.Header.{row_size}
use Rattle.v_frame_png.specs.Refusals.{AcceptsRows}
use Rattle.v_frame_png.proofs.RowLists.{row_more}
use Rattle.yuv_pictures.specs.Colors.{rgb_bytes}
use Rattle.yuv_pictures.proofs.Troubles.{trouble_in_rows}
use Rattle.yuv_pictures.proofs.colors.write_color_rows.Goals as goal

pub loop-k-preserved : goal.loop-k-preserved
loop-k-preserved g c =
    let before = c.loop-k.invariant in
    let k = c.loop-k.k in
    let line = c.make_color_row.new.line in
    let m = c.args.matrix.now in
    let rows = exact_color_rows m.standard m.range m.depth g.T.Pixel.form rgb_bytes c.args.y.now c.args.u.now c.args.v.now in
    let long : length line ≡ c.loop-k.line.len = c.make_color_row.auto.line ∙ c.deref_mut.ensures.len in
    let same : c.deref.result.now ≡ line = grind (arith, common_steps) in
    let drawn = c.in_default.ensures.drawn (g.W.Write.contents c.args.out) (take k rows) before.drawn in
    record {
      drawn = rw (row_more rows k line c.make_color_row.ensures) (rw same at drawn);
      header = c.in_default.ensures.header ∙ before.header;
      size = before.size;
    }

pub returns-in-Err-clause-error : goal.returns-in-Err-clause-error
returns-in-Err-clause-error g c =
    let before = c.loop-k.invariant in
    let k = c.loop-k.k in
    let m = c.args.matrix.now in
    let rows = exact_color_rows m.standard m.range m.depth g.T.Pixel.form rgb_bytes c.args.y.now c.args.u.now c.args.v.now in
    let color = exact_of_pixels m.standard m.range m.depth g.T.Pixel.form in
    let count = length-color_rows_by color rgb_bytes c.args.y.now c.args.u.now c.args.v.now
    c.requires.u_high c.requires.v_high in
    let is = before.header ∙ c.requires.header in
    let high = ap (λ h. h.height) is in
    let wide = ap row_size is in
    let low : k ≤ length rows = omega (arith, count, c.height-height.ensures.value, c.loop-k-test.true) in
    let so_far = length-take-le k rows low in
    let accepted : AcceptsRows c.loop-k.png (length c.deref.result.now) 1 = record {
      is_open = before.drawn.is_open;
      left = omega (arith, before.drawn.left, high, so_far, c.height-height.ensures.value, c.loop-k-test.true);
      fits = omega (arith, wide, c.deref.ensures.len, before.size);
    } in
    rw c.trouble.ensures
    (trouble_in_rows c.loop-k.png c.write_row.new.self (length c.deref.result.now) 1 c.in-Err.error accepted
    c.in-Err.ensures.error)

pub end-requires-clause-is_open : goal.end-requires-clause-is_open
end-requires-clause-is_open g c = c.loop-k.invariant.drawn.is_open

pub end-requires-clause-left : goal.end-requires-clause-left
end-requires-clause-left g c =
    let before = c.loop-k.invariant in
    let m = c.args.matrix.now in
    let rows = exact_color_rows m.standard m.range m.depth g.T.Pixel.form rgb_bytes c.args.y.now c.args.u.now c.args.v.now in
    let color = exact_of_pixels m.standard m.range m.depth g.T.Pixel.form in
    let count = length-color_rows_by color rgb_bytes c.args.y.now c.args.u.now c.args.v.now
    c.requires.u_high c.requires.v_high in
    let high = ap (λ h. h.height) (before.header ∙ c.requires.header) in
    let whole : take c.loop-k.k rows ≡ rows =
    take_all c.loop-k.k rows (omega (arith, count, c.height-height.ensures.value, c.loop-k-test.false)) in
    let all = ap length whole in
    omega (arith, before.drawn.left, high, count, all)

pub returns-clause-file : goal.returns-clause-file
returns-clause-file g c =
    let before = c.loop-k.invariant in
    let m = c.args.matrix.now in
    let rows = exact_color_rows m.standard m.range m.depth g.T.Pixel.form rgb_bytes c.args.y.now c.args.u.now c.args.v.now in
    let color = exact_of_pixels m.standard m.range m.depth g.T.Pixel.form in
    let count = length-color_rows_by color rgb_bytes c.args.y.now c.args.u.now c.args.v.now
    c.requires.u_high c.requires.v_high in
    let whole : take c.loop-k.k rows ≡ rows =
    take_all c.loop-k.k rows (omega (arith, count, c.height-height.ensures.value, c.loop-k-test.false)) in
    rw (before.header, whole) at (c.end.ensures.file (g.W.Write.contents c.args.out) (take c.loop-k.k rows) before.drawn)
