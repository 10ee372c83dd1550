-- The loop step: four more pixels.
use Rattle.std.proofs.Common.{ℕ, cond, nat_eq, arith}
use Rattle.v_frame_statistics.proofs.ListSums.{sum_by-four_more}
use Rattle.v_frame_statistics.proofs.rows.histograms.count_words.Goals as goal

pub loop-four-preserved : goal.loop-four-preserved
loop-four-preserved c = λ v below. omega (
  arith,
  c.loop-four.invariant v below,
  c.count_word.ensures v (omega arith),
  c.count_word-in-loop-four.ensures v (omega arith),
  c.count_word-in-loop-four-2.ensures v (omega arith),
  c.count_word-in-loop-four-3.ensures v (omega arith),
  sum_by-four_more (λ (q : ℕ). cond (nat_eq q v) 1 0) c.args.row.now c.loop-four.four 0 (omega arith),
)
