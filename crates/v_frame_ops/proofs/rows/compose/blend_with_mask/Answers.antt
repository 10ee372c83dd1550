-- Each row is blended with the rows of the source and the mask.
use Rattle.std.proofs.Common.{◌≡◌, ◌+◌, ◌-◌, ◌*◌, ◌<◌, length, drop, take, option_and_then, slice_get, ap, ◌∙◌, arith}
use Rattle.std.proofs.Common.{length-take-le, length-drop}
use Rattle.v_frame.specs.Prelude.{strided_rows, RowsFit}
use Rattle.v_frame_ops.specs.Compose.{BlendsByMask}
use Rattle.v_frame_ops.proofs.Changed.{same_item, none_changed, one_more_set, all_changed}
use Rattle.v_frame_ops.proofs.Mapped.{found_row}
use Rattle.v_frame_raster.proofs.tables.Strides.{height_of_rows, strided_row}
use Rattle.v_frame_raster.proofs.tables.StridedWrites.{row_ends, row_put, rest_put, rest_kept, rest_same}
use Rattle.v_frame_ops.proofs.rows.compose.blend_with_mask.Goals as goal

pub loop-y-init : goal.loop-y-init
loop-y-init g c =
    let w = c.args.width in let h = c.args.height in let s = c.args.stride in let xs = c.args.buffer.now in
    record { rows = none_changed _ (strided_rows w h s xs); rest = rest_same w h s xs }

pub loop-y-preserved : goal.loop-y-preserved
loop-y-preserved g c =
    let w = c.args.width in let h = c.args.height in let s = c.args.stride in let y = c.loop-y.y in
    let old = c.args.buffer.now in let xs = c.loop-y.buffer in let row = c.blend_row_with_mask.new.row in
    let start = s * y in
    let fit : RowsFit w h s (length xs) = rw (c.loop-y.auto.buffer) c.requires.fit in
    let high : y < h = omega arith in
    let ends = row_ends w h s (length xs) y fit high in
    let cut : start + w - start ≡ w = omega arith in
    let part = length-take-le w (drop start xs) (omega (arith, length-drop start xs, ends)) in
    let long : length row ≡ w = rw (cut, part) at c.blend_row_with_mask.auto.row in
    let read = strided_row w h s xs y fit.apart high in
    let made : BlendsByMask g.T.Pixel.form (take w (drop start xs)) c.visible_row.result.now
    c.visible_row-in-loop-y.result.now row = rw cut at c.blend_row_with_mask.ensures in
    rw (cut) (record {
      rows =
          rw (row_put w h s xs row y fit high long)
          (one_more_set _ (strided_rows w h s old) (strided_rows w h s xs) y _ row c.loop-y.invariant.rows read
          (λ beside weights is is1.
          rw (
            ← same_item c.args.source.now y c.visible_row.result.now beside c.visible_row.ensures.value is,
            ← same_item c.args.mask.now y c.visible_row-in-loop-y.result.now weights c.visible_row-in-loop-y.ensures.value
                is1,
          ) made));
      rest = rest_kept w h s old xs _ c.loop-y.invariant.rest (rest_put w h s xs row y fit high long);
    })

pub returns-clause-pixels : goal.returns-clause-pixels
returns-clause-pixels g c = λ x y p q weight is is1 is2.
    let w = c.args.width in let h = c.args.height in let s = c.args.stride in
    let old = strided_rows w h s c.args.buffer.now in
    let row = found_row x p (slice_get old y) is in
    let beside = found_row x q (slice_get c.args.source.now y) is1 in
    let weights = found_row x weight (slice_get c.args.mask.now y) is2 in
    let count = height_of_rows w h s c.args.buffer.now in
    let r = all_changed _ old (strided_rows w h s c.loop-y.buffer) c.loop-y.y c.loop-y.invariant.rows
    (omega (arith, count)) y row.0 row.1 in
    ap (option_and_then (λ new. slice_get new x)) r.2
    ∙ r.1 beside.0 weights.0 beside.1 weights.1 x p q weight row.2 beside.2 weights.2

pub returns-clause-rest : goal.returns-clause-rest
returns-clause-rest g c = c.loop-y.invariant.rest
