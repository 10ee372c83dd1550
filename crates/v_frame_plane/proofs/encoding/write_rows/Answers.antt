-- A step of the loop writes one more row of the buffer from a row of the source, up to the last.
use Rattle.std.proofs.Common.{◌≡◌, ◌+◌, ◌-◌, ◌*◌, ◌<◌, length, drop, map, Some, slice_get, ◌∙◌, arith, length-take-le}
use Rattle.std.proofs.Common.{length-drop, refl}
use Rattle.std.proofs.lemmas.List.{length-map}
use Rattle.std.proofs.lemmas.Option.{slice_get-map}
use Rattle.v_frame_raster.proofs.tables.StridedWrites.{row_ends, none_written, one_more_written, all_written}
use Rattle.v_frame_plane.proofs.encoding.write_rows.Goals as goal

pub loop-y-init : goal.loop-y-init
loop-y-init g c = none_written c.args.width c.args.height c.args.stride _ c.args.buffer.now

pub loop-y-preserved : goal.loop-y-preserved
loop-y-preserved g c =
    let w = c.args.width in let h = c.args.height in let s = c.args.stride in let y = c.loop-y.y in
    let xs = c.loop-y.buffer in let row = c.write_row.new.row in let start = s * y in
    let high : y < h = omega arith in
    let ends = row_ends w h s (length c.args.buffer.now) y c.requires.fit high in
    let cut : start + w - start ≡ w = omega arith in
    let part = length-take-le w (drop start xs) (omega (arith, length-drop start xs, ends, c.loop-y.auto.buffer)) in
    let long : length row ≡ w = rw (cut, part) at c.write_row.auto.row in
    let make = g.E.Encoding.row_of w in
    let is : row ≡ make c.visible_row.result.now = rw (cut, part) at c.write_row.ensures in
    let made : slice_get (map make c.args.source.now) y ≡ Some row = slice_get-map make c.args.source.now y ∙ rw
    (c.visible_row.ensures.value, is) refl in
    rw cut (one_more_written w h s (map make c.args.source.now) c.args.buffer.now xs row y c.requires.fit high
    c.loop-y.auto.buffer made long
    c.loop-y.invariant)

pub returns-clause-table : goal.returns-clause-table
returns-clause-table g c =
    let make = g.E.Encoding.row_of c.args.width in
    all_written c.args.width c.args.height c.args.stride (map make c.args.source.now) c.args.buffer.now c.loop-y.buffer
    c.loop-y.y
    (length-map c.args.source.now make ∙ c.requires.high) (omega arith) c.loop-y.invariant

pub returns-clause-rest : goal.returns-clause-rest
returns-clause-rest g c = c.loop-y.invariant.rest
