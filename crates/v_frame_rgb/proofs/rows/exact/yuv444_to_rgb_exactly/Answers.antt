-- The loop step writes one row of the buffer from the three source rows. The last row is handled after the loop.
use Rattle.std.proofs.Common.{◌≡◌, ◌+◌, ◌-◌, ◌*◌, ◌<◌, length, drop, Some, slice_get, ◌∙◌, ap, sym, arith}
use Rattle.std.proofs.Common.{length-take-le, length-drop}
use Rattle.v_frame_raster.proofs.tables.StridedWrites.{row_ends, none_written, one_more_written, all_written}
use Rattle.v_frame_rgb.specs.Exact.{exact_color_rows, exact_of_pixels}
use Rattle.v_frame_rgb.proofs.ColorLemmas.{slice_get-color_rows_by, length-color_rows_by}
use Rattle.v_frame_rgb.proofs.rows.exact.yuv444_to_rgb_exactly.Goals as goal

pub overflow_mul-start : goal.overflow_mul-start
overflow_mul-start g c =
    let ends = row_ends c.args.width c.args.height c.args.stride (length c.args.buffer.now) c.loop-k.k c.requires.fit
    c.loop-k-test.true in
    omega (arith, ends, c.well_formed)

pub overflow_add-start : goal.overflow_add-start
overflow_add-start g c =
    let ends = row_ends c.args.width c.args.height c.args.stride (length c.args.buffer.now) c.loop-k.k c.requires.fit
    c.loop-k-test.true in
    omega (arith, ends, c.well_formed)

pub slice_bounds-decode_row-end : goal.slice_bounds-decode_row-end
slice_bounds-decode_row-end g c =
    let ends = row_ends c.args.width c.args.height c.args.stride (length c.args.buffer.now) c.loop-k.k c.requires.fit
    c.loop-k-test.true in
    omega (arith, ends, c.loop-k.auto.buffer)

pub loop-k-init : goal.loop-k-init
loop-k-init g c = none_written c.args.width c.args.height c.args.stride _ c.args.buffer.now

pub loop-k-preserved : goal.loop-k-preserved
loop-k-preserved g c =
    let w = c.args.width in let h = c.args.height in let s = c.args.stride in let k = c.loop-k.k in
    let xs = c.loop-k.buffer in let row = c.decode_row.new.out in let start = s * k in
    let make = g.O.ColorOrder.bytes_of in
    let m = c.args.matrix.now in
    let color = exact_of_pixels m.standard m.range m.depth g.T.Pixel.form in
    let rows = exact_color_rows m.standard m.range m.depth g.T.Pixel.form make c.args.y.now c.args.u.now c.args.v.now in
    let high : k < h = omega arith in
    let ends = row_ends w h s (length c.args.buffer.now) k c.requires.fit high in
    let cut : start + w - start ≡ w = omega arith in
    let part = length-take-le w (drop start xs) (omega (arith, length-drop start xs, ends, c.loop-k.auto.buffer)) in
    let long : length row ≡ w = rw (cut, part) at c.decode_row.auto.out in
    let made : slice_get rows k ≡ Some row =
    slice_get-color_rows_by color make c.args.y.now c.args.u.now c.args.v.now k _ _ _
    c.visible_row-luma.ensures.value c.visible_row-cb.ensures.value c.visible_row-cr.ensures.value
    ∙ ap Some (sym c.decode_row.ensures) in
    rw cut (one_more_written w h s rows c.args.buffer.now xs row k c.requires.fit high c.loop-k.auto.buffer made long
    c.loop-k.invariant)

pub returns-clause-table : goal.returns-clause-table
returns-clause-table g c =
    let make = g.O.ColorOrder.bytes_of in
    let m = c.args.matrix.now in
    let color = exact_of_pixels m.standard m.range m.depth g.T.Pixel.form in
    let rows = exact_color_rows m.standard m.range m.depth g.T.Pixel.form make c.args.y.now c.args.u.now c.args.v.now in
    let count = length-color_rows_by color make c.args.y.now c.args.u.now c.args.v.now
    (omega arith) (omega arith) in
    all_written c.args.width c.args.height c.args.stride rows c.args.buffer.now c.loop-k.buffer c.loop-k.k
    (count ∙ c.requires.high) (omega arith) c.loop-k.invariant

pub returns-clause-rest : goal.returns-clause-rest
returns-clause-rest g c = c.loop-k.invariant.rest
