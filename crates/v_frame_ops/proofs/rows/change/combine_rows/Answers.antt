-- Each row is set to results of the closure for the pixels of both pictures in this row.
use Rattle.std.proofs.Common.{◌≡◌, ◌+◌, ◌-◌, ◌*◌, ◌<◌, length, drop, take, subst, ◌∙◌, arith, length-take-le}
use Rattle.std.proofs.Common.{length-drop}
use Rattle.std.proofs.lemmas.List.{take_all}
use Rattle.v_frame.specs.Prelude.{strided_rows, RowsFit}
use Rattle.v_frame_ops.specs.Rows.{CombinesItems}
use Rattle.v_frame_ops.proofs.Changed.{GivenWith, same_item, none_changed, one_more_set, all_changed}
use Rattle.v_frame_raster.proofs.tables.Strides.{height_of_rows, strided_row}
use Rattle.v_frame_raster.proofs.tables.StridedWrites.{row_ends, row_put, rest_put, rest_kept, rest_same}
use Rattle.v_frame_ops.proofs.rows.change.combine_rows.Goals as goal

pub loop-y-init : goal.loop-y-init
loop-y-init g c =
    let w = c.args.width in let h = c.args.height in let s = c.args.stride in let xs = c.args.buffer.now in
    record { rows = none_changed _ (strided_rows w h s xs); rest = rest_same w h s xs }

pub loop-y-preserved : goal.loop-y-preserved
loop-y-preserved g c =
    let w = c.args.width in let h = c.args.height in let s = c.args.stride in let y = c.loop-y.y in
    let old = c.args.buffer.now in let xs = c.loop-y.buffer in let row = c.combine_row.new.row in let start = s * y in
    let fit : RowsFit w h s (length xs) = rw (c.loop-y.auto.buffer) c.requires.fit in
    let high : y < h = omega arith in
    let ends = row_ends w h s (length xs) y fit high in
    let cut : start + w - start ≡ w = omega arith in
    let part = length-take-le w (drop start xs) (omega (arith, length-drop start xs, ends)) in
    let long : length row ≡ w = rw (cut, part) at c.combine_row.auto.row in
    let read = strided_row w h s xs y fit.apart high in
    let gives = CombinesItems (goal.F-post g c.args.combine.now) in
    let whole = take_all w c.visible_row.result.now (omega (arith, c.visible_row.ensures.wide, c.requires.wide)) in
    let made : gives (take w (drop start xs)) c.visible_row.result.now row = rw (cut, whole) at c.combine_row.ensures in
    rw (cut) (record {
      rows =
          rw (row_put w h s xs row y fit high long)
          (one_more_set (GivenWith gives c.args.other.now) (strided_rows w h s old) (strided_rows w h s xs) y _ row
          c.loop-y.invariant.rows read (λ q is.
          let same = same_item c.args.other.now y c.visible_row.result.now q c.visible_row.ensures.value is in
          subst (λ other. gives (take w (drop start xs)) other row) same made));
      rest = rest_kept w h s old xs _ c.loop-y.invariant.rest (rest_put w h s xs row y fit high long);
    })

pub returns-clause-rows : goal.returns-clause-rows
returns-clause-rows g c =
    let w = c.args.width in let h = c.args.height in let s = c.args.stride in
    let count = height_of_rows w h s c.args.buffer.now in record {
      count = c.loop-y.invariant.rows.count;
      as_many = c.requires.high ∙ omega (arith, count);
      at = λ k p q is beside.
          let r = all_changed _ (strided_rows w h s c.args.buffer.now) (strided_rows w h s c.loop-y.buffer) c.loop-y.y
          c.loop-y.invariant.rows (omega (
            arith,
            count,
          )) k p is in
          (r.0, r.1 q beside, r.2);
    }

pub returns-clause-rest : goal.returns-clause-rest
returns-clause-rest g c = c.loop-y.invariant.rest
