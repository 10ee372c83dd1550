-- The loop step handles one more pixel. After the last step, all pixels are handled.
use Rattle.std.proofs.Common.{arith}
use Rattle.v_frame_statistics.proofs.Extremal.{by_least, by_greatest, first_of_more, first_of_all}
use Rattle.v_frame_statistics.proofs.rows.extremes.extremes_of_row.Goals as goal

pub loop-x-preserved : goal.loop-x-preserved
loop-x-preserved g c =
    let value = g.T.Pixel.form.value in let row = c.args.row.now in let x = c.loop-x.x in
    let so_far = c.loop-x.invariant in let read = c.index-row-x.is in record {
      least = first_of_more (by_least value) row x _ _ _ (omega arith) read so_far.least c.lesser-least.ensures;
      greatest =
          first_of_more (by_greatest value) row x _ _ _ (omega arith) read so_far.greatest c.greater-greatest.ensures;
    }

pub returns-clause-least : goal.returns-clause-least
returns-clause-least g c =
    first_of_all (by_least g.T.Pixel.form.value) c.args.row.now c.loop-x.x _ (omega arith) c.loop-x.invariant.least

pub returns-clause-greatest : goal.returns-clause-greatest
returns-clause-greatest g c =
    first_of_all (by_greatest g.T.Pixel.form.value) c.args.row.now c.loop-x.x _ (omega arith) c.loop-x.invariant.greatest
