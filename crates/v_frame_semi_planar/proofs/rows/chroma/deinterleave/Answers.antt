-- Each row of the source is split into a row of each buffer.
use Rattle.std.proofs.Common.{◌≡◌, ◌+◌, ◌-◌, ◌*◌, ◌<◌, length, drop, Some, sym, ◌∙◌, ap, arith}
use Rattle.std.proofs.Common.{length-take-le, length-drop}
use Rattle.v_frame.specs.Prelude.{RowsFit, strided_rows}
use Rattle.v_frame_raster.proofs.tables.Strides.{height_of_rows}
use Rattle.v_frame_raster.proofs.tables.StridedWrites.{row_ends, row_put, rest_put, rest_kept, rest_same}
use Rattle.v_frame_semi_planar.proofs.Interleaving.{one_more_apart, all_apart}
use Rattle.v_frame_semi_planar.proofs.rows.chroma.deinterleave.Goals as goal

pub loop-y-init : goal.loop-y-init
loop-y-init g c =
    let w = c.args.width in let h = c.args.height in
    record {
      rows = record { at = λ k h. absurd (omega arith) };
      first_rest = rest_same w h c.args.first_stride c.args.first.now;
      second_rest = rest_same w h c.args.second_stride c.args.second.now;
    }

pub loop-y-preserved : goal.loop-y-preserved
loop-y-preserved g c =
    let w = c.args.width in let h = c.args.height in let y = c.loop-y.y in
    let s = c.args.first_stride in let t = c.args.second_stride in
    let us = c.loop-y.first in let vs = c.loop-y.second in
    let u = c.deinterleave_row.new.first in let v = c.deinterleave_row.new.second in
    let high : y < h = omega arith in
    let fit : RowsFit w h s (length us) = rw (c.loop-y.auto.first) c.requires.first_fit in
    let fit_second : RowsFit w h t (length vs) = rw (c.loop-y.auto.second) c.requires.second_fit in
    let ends = row_ends w h s (length us) y fit high in
    let ends_second = row_ends w h t (length vs) y fit_second high in
    let cut : s * y + w - s * y ≡ w = omega arith in
    let cut_second : t * y + w - t * y ≡ w = omega arith in
    let part = length-take-le w (drop (s * y) us) (omega (arith, length-drop (s * y) us, ends)) in
    let part_second = length-take-le w (drop (t * y) vs) (omega (arith, length-drop (t * y) vs, ends_second)) in
    let long : length u ≡ w = rw (cut, part) at c.deinterleave_row.auto.first in
    let long_second : length v ≡ w = rw (cut_second, part_second) at c.deinterleave_row.auto.second in
    let is = c.visible_row.ensures.value ∙ ap Some c.deinterleave_row.ensures in
    rw (cut, cut_second) (record {
      rows =
          rw (row_put w h s us u y fit high long, row_put w h t vs v y fit_second high long_second)
          (one_more_apart c.args.source.now (strided_rows w h s us) (strided_rows w h t vs) y u v c.loop-y.invariant.rows
          (omega (arith, height_of_rows w h s us)) (omega (arith, height_of_rows w h t vs)) is);
      first_rest = rest_kept w h s c.args.first.now us _ c.loop-y.invariant.first_rest (rest_put w h s us u y fit high long);
      second_rest = rest_kept w h t c.args.second.now vs _ c.loop-y.invariant.second_rest
          (rest_put w h t vs v y fit_second high long_second);
    })

pub returns-clause-table : goal.returns-clause-table
returns-clause-table g c =
    let w = c.args.width in let h = c.args.height in
    let us = strided_rows w h c.args.first_stride c.loop-y.first in
    let vs = strided_rows w h c.args.second_stride c.loop-y.second in
    all_apart c.args.source.now us vs c.loop-y.y
    (height_of_rows w h c.args.first_stride c.loop-y.first ∙ sym c.requires.high)
    (height_of_rows w h c.args.second_stride c.loop-y.second ∙ sym c.requires.high)
    (omega (arith, c.requires.high)) c.loop-y.invariant.rows

pub returns-clause-first_rest : goal.returns-clause-first_rest
returns-clause-first_rest g c = c.loop-y.invariant.first_rest

pub returns-clause-second_rest : goal.returns-clause-second_rest
returns-clause-second_rest g c = c.loop-y.invariant.second_rest
