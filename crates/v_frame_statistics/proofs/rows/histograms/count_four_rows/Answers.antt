-- The loop step: one more pixel of each row.
use Rattle.std.proofs.Common.{arith}
use Rattle.v_frame_statistics.proofs.HistogramSteps.{one_more_counted}
use Rattle.v_frame_statistics.proofs.rows.histograms.count_four_rows.Goals as goal

pub loop-x-preserved : goal.loop-x-preserved
loop-x-preserved c = record {
  first =
      one_more_counted 256 c.args.first.now _ _ c.args.a.now c.loop-x.x c.loop-x.invariant.first (omega arith)
      c.count_one.ensures c.count_one.array_long (omega (arith, (c.type_inv.a c.loop-x.x).fits));
  second =
      one_more_counted 256 c.args.second.now _ _ c.args.b.now c.loop-x.x c.loop-x.invariant.second (omega arith)
      c.count_one-in-loop-x.ensures c.count_one-in-loop-x.array_long (omega (arith, (c.type_inv.b c.loop-x.x).fits));
  third =
      one_more_counted 256 c.args.third.now _ _ c.args.c.now c.loop-x.x c.loop-x.invariant.third (omega arith)
      c.count_one-in-loop-x-2.ensures c.count_one-in-loop-x-2.array_long
      (omega (arith, (c.type_inv.c c.loop-x.x).fits));
  fourth =
      one_more_counted 256 c.args.fourth.now _ _ c.args.d.now c.loop-x.x c.loop-x.invariant.fourth (omega arith)
      c.count_one-in-loop-x-3.ensures c.count_one-in-loop-x-3.array_long
      (omega (arith, (c.type_inv.d c.loop-x.x).fits));
}
