-- Each row is the mean of the two source rows that were read.
use Rattle.std.proofs.Common.{◌≡◌, ◌+◌, ◌-◌, ◌*◌, ◌<◌, List, length, drop, Some, slice_get, ◌∙◌, arith, length-take-le}
use Rattle.std.proofs.Common.{length-drop}
use Rattle.std.proofs.Math.ListN.{set}
use Rattle.std.proofs.lemmas.Option.{slice_get_within}
use Rattle.v_frame.specs.Prelude.{halved, strided_rows, RowsFit}
use Rattle.v_frame_ops.proofs.Changed.{same_item}
use Rattle.v_frame_raster.proofs.tables.Lists.{others_are_read as slice_get-set_other, slice_get-set_same}
use Rattle.v_frame_raster.proofs.tables.Strides.{strided_row}
use Rattle.v_frame_raster.proofs.tables.StridedWrites.{row_ends, row_put, rest_put, rest_kept, rest_same}
use Rattle.v_frame_ops.proofs.rows.change.downscale.Goals as goal
use borrow.Author.Count.{below_more}

pub loop-y-init : goal.loop-y-init
loop-y-init g c = record {
  halves = λ k h. absurd (omega arith);
  rest = rest_same c.args.width c.args.height
      c.args.stride c.args.buffer.now;
}

pub loop-y-preserved : goal.loop-y-preserved
loop-y-preserved g c =
    let w = c.args.width in let h = c.args.height in let s = c.args.stride in let y = c.loop-y.y in
    let old = c.args.buffer.now in let xs = c.loop-y.buffer in let row = c.halve_rows.new.dst in let start = s * y in
    let shown = c.args.source.now in let now = strided_rows w h s xs in let half = halved g.T.Pixel.form in
    let fit : RowsFit w h s (length xs) = rw (c.loop-y.auto.buffer) c.requires.fit in
    let high : y < h = omega arith in
    let ends = row_ends w h s (length xs) y fit high in
    let cut : start + w - start ≡ w = omega arith in
    let part = length-take-le w (drop start xs) (omega (arith, length-drop start xs, ends)) in
    let long : length row ≡ w = rw (cut, part) at c.halve_rows.auto.dst in
    let read = strided_row w h s xs y fit.apart high in
    rw cut (record {
      halves =
          rw (row_put w h s xs row y fit high long)
          (below_more (λ k. (top bottom : List g.row.T.Denot) → slice_get shown (2 * k) ≡ Some top → slice_get shown
          (2 * k + 1) ≡ Some bottom
          → slice_get (set now y row) k ≡ Some (half top bottom)) y
          (λ k h top bottom is under. slice_get-set_other now y k row (omega arith) ∙ c.loop-y.invariant.halves k h top
          bottom is under)
          (λ top bottom is under.
          let same = same_item shown (2 * y) c.visible_row-top.result.now top c.visible_row-top.ensures.value is in
          let same_under = same_item shown (2 * y + 1) c.visible_row-bottom.result.now bottom
          c.visible_row-bottom.ensures.value under in
          slice_get-set_same now y _ row (half top bottom) read (rw (← same, ← same_under) c.halve_rows.ensures)));
      rest = rest_kept w h s old xs _ c.loop-y.invariant.rest (rest_put w h s xs row y fit high long);
    })

pub returns-clause-rows : goal.returns-clause-rows
returns-clause-rows g c = λ y top bottom is under.
    let within = slice_get_within c.args.source.now (2 * y) top is in
    c.loop-y.invariant.halves y (omega arith) top bottom is under

pub returns-clause-rest : goal.returns-clause-rest
returns-clause-rest g c = c.loop-y.invariant.rest
