-- The first row, and one more row in each loop step.
use Rattle.v_frame_statistics.proofs.Extremal.{by_least, by_greatest, first_of_more_rows, first_rows}
use Rattle.v_frame_statistics.proofs.SumSteps.{row_summed, first_row_summed}
use Rattle.v_frame_statistics.proofs.rows.summary.statistics.Goals as goal

pub loop-y-init : goal.loop-y-init
loop-y-init g c =
    let table = c.args.rows.now in let row = c.visible_row-row.ensures in let sums = c.sums_of_row-sums.ensures in
    let extremes = c.extremes_of_row-extremes.ensures in record {
      values = first_row_summed _ 65536 table _ _ row.value row.wide sums.value.values sums.bound.values;
      squares = first_row_summed _ 4294967296 table _ _ row.value row.wide sums.value.squares sums.bound.squares;
      least = rw (first_rows table 0 _ row.value) extremes.least;
      greatest = rw (first_rows table 0 _ row.value) extremes.greatest;
    }

pub loop-y-preserved : goal.loop-y-preserved
loop-y-preserved g c =
    let value = g.T.Pixel.form.value in let table = c.args.rows.now in let y = c.loop-y.y in
    let so_far = c.loop-y.invariant in let row = c.visible_row-row-in-loop-y.ensures in
    let sums = c.sums_of_row-here.ensures in let extremes = c.extremes_of_row-extremes-in-loop-y.ensures in record {
      values = row_summed _ 65536 table y _ _ _ so_far.values row.value row.wide sums.value.values sums.bound.values;
      squares =
          row_summed _ 4294967296 table y _ _ _ so_far.squares row.value row.wide sums.value.squares sums.bound.squares;
      least =
          first_of_more_rows (by_least value) table y _ row.value _ _ _ so_far.least extremes.least
          c.lesser-minimum.ensures;
      greatest =
          first_of_more_rows (by_greatest value) table y _ row.value _ _ _ so_far.greatest extremes.greatest
          c.greater-maximum.ensures;
    }
