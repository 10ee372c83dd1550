-- The row that contains the center is written.
use Rattle.std.proofs.Common.{◌≡◌, ◌+◌, ◌-◌, ◌*◌, ◌<◌, length, drop, option_and_then, Some, slice_get}
use Rattle.std.proofs.Common.{ap, sym, ◌∙◌, arith, length-take-le, length-drop}
use Rattle.v_frame.specs.Prelude.{pixel_at, width_of, height_of}
use Rattle.v_frame_raster.proofs.tables.StridedWrites.{row_ends}
use Rattle.v_frame_resize.specs.Resize.{nearest}
use Rattle.v_frame_resize.proofs.CenterLemmas.{nearest_is, center_inside}
use Rattle.v_frame_resize.proofs.PixelsWritten.{no_pixels, one_more_row}
use Rattle.v_frame_resize.proofs.rows.nearest.resize_nearest.Goals as goal

pub loop-y-init : goal.loop-y-init
loop-y-init g c = record {
  center = rw c.height.ensures.value at c.first_center-center.ensures;
  rows = no_pixels _ c.args.width c.args.height c.args.stride c.args.buffer.now;
}

pub visible_row-requires : goal.visible_row-requires
visible_row-requires g c =
    center_inside (height_of c.args.source.now) c.args.height c.loop-y.y c.loop-y.center c.loop-y.invariant.center
    (omega arith) (omega arith)

pub loop-y-preserved : goal.loop-y-preserved
loop-y-preserved g c =
    let w = c.args.width in let h = c.args.height in let s = c.args.stride in let y = c.loop-y.y in
    let source = c.args.source.now in let xs = c.loop-y.buffer in let shown = c.visible_row.result.now in
    let start = s * y in
    let center = c.loop-y.invariant.center in
    let high : y < h = omega arith in
    let ends = row_ends w h s (length c.args.buffer.now) y c.requires.fit high in
    let cut : start + w - start ≡ w = omega arith in
    let part = length-take-le w (drop start xs) (omega (arith, length-drop start xs, ends, c.loop-y.auto.buffer)) in
    let wide = c.visible_row.ensures.wide in
    let found : slice_get source (nearest (height_of source) h y) ≡ Some shown =
    rw (nearest_is (height_of source) h y c.loop-y.center center) c.visible_row.ensures.value in record {
      center = c.next_center-center.ensures (height_of source) h y center;
      rows =
          one_more_row
          (λ x k. pixel_at source (nearest (width_of source) w x) (nearest (height_of source) h k)) w h s
          c.args.buffer.now xs c.nearest_row.new.out y c.requires.fit high c.loop-y.auto.buffer c.nearest_row.auto.out
          (λ x across.
          rw (cut, part, wide) at (c.nearest_row.ensures x (rw (cut, part) across))
          ∙ sym (ap (option_and_then (λ r. slice_get r (nearest (width_of source) w x))) found))
          c.loop-y.invariant.rows;
    }

pub returns-clause-pixels : goal.returns-clause-pixels
returns-clause-pixels g c = λ x y across down. c.loop-y.invariant.rows.pixels y (omega arith) x across

pub returns-clause-rest : goal.returns-clause-rest
returns-clause-rest g c = c.loop-y.invariant.rows.rest
