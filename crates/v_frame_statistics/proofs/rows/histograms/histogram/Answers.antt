-- The loop steps count four more rows, or one more row. After the last step, all rows are counted.
use Rattle.std.proofs.Common.{◌≡◌, ◌+◌, ◌*◌, arith}
use Rattle.std.proofs.lemmas.List.{drop_all}
use Rattle.v_frame_statistics.proofs.HistogramSteps.{row_counted, four_rows_counted, row_fits}
use Rattle.v_frame_statistics.proofs.rows.histograms.histogram.Goals as goal

pub loop-four-preserved : goal.loop-four-preserved
loop-four-preserved c =
    let y = 4 * c.loop-four.four in
    let next : 4 * (c.loop-four.four + 1) ≡ y + 4 = omega arith in
    let made = c.count_four_rows.ensures in
    rw next (four_rows_counted 256 c.args.rows.now y _ _ c.loop-four.invariant _ _ _ _ c.visible_row-a.ensures.value
    c.visible_row-b.ensures.value c.visible_row-c.ensures.value c.visible_row-d.ensures.value
    c.visible_row-a.ensures.wide c.visible_row-b.ensures.wide c.visible_row-c.ensures.wide c.visible_row-d.ensures.wide
    (λ v below. omega (arith, made.first v below, made.second v below, made.third v below, made.fourth v below)))

pub loop-y-preserved : goal.loop-y-preserved
loop-y-preserved c =
    row_counted 256 c.args.rows.now c.loop-y.y _ _ c.loop-y.invariant _ c.visible_row.ensures.value
    c.visible_row.ensures.wide (λ v below. omega (arith, c.count_row.ensures v below))

pub count_four_rows-requires-clause-first : goal.count_four_rows-requires-clause-first
count_four_rows-requires-clause-first c = λ v below. omega (
  arith,
  row_fits 256 c.args.rows.now (4 * c.loop-four.four) _ c.loop-four.invariant c.height-height.result (omega arith)
      c.height-height.ensures.countable v below,
  c.visible_row-a.ensures.wide,
)

pub count_four_rows-requires-clause-second : goal.count_four_rows-requires-clause-second
count_four_rows-requires-clause-second c = λ v below. omega (
  arith,
  row_fits 256 c.args.rows.now (4 * c.loop-four.four) _ c.loop-four.invariant c.height-height.result (omega arith)
      c.height-height.ensures.countable v below,
  c.visible_row-a.ensures.wide,
)

pub count_four_rows-requires-clause-third : goal.count_four_rows-requires-clause-third
count_four_rows-requires-clause-third c = λ v below. omega (
  arith,
  row_fits 256 c.args.rows.now (4 * c.loop-four.four) _ c.loop-four.invariant c.height-height.result (omega arith)
      c.height-height.ensures.countable v below,
  c.visible_row-a.ensures.wide,
)

pub count_four_rows-requires-clause-fourth : goal.count_four_rows-requires-clause-fourth
count_four_rows-requires-clause-fourth c = λ v below. omega (
  arith,
  row_fits 256 c.args.rows.now (4 * c.loop-four.four) _ c.loop-four.invariant c.height-height.result (omega arith)
      c.height-height.ensures.countable v below,
  c.visible_row-a.ensures.wide,
)

pub returns : goal.returns
returns c = λ v below.
    let none = drop_all c.loop-y.y c.args.rows.now (omega arith) in
    omega (
      arith,
      c.add_tables.ensures v below,
      c.add_tables-2.ensures v below,
      c.add_tables-3.ensures v below,
      rw none at (c.loop-y.invariant.so_far v below),
    )
