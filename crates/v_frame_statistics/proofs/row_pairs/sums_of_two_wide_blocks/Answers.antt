-- The loop step adds one more pixel of each block. After the last step, the sums are complete.
use Rattle.std.proofs.Common.{arith, ◌∙◌}
use Rattle.v_frame_statistics.proofs.PairSteps.{pair_halves_summed, all_pair_halves_summed}
use Rattle.v_frame_statistics.proofs.SumSteps.{item_summed, all_summed, item_halves_summed, all_halves_summed}
use Rattle.v_frame_statistics.proofs.row_pairs.sums_of_two_wide_blocks.Goals as goal

pub loop-x-preserved : goal.loop-x-preserved
loop-x-preserved g c =
    let a = c.args.a.now in let b = c.args.b.now in let x = c.loop-x.x in let so_far = c.loop-x.invariant in
    let p = c.index-a-x.is in let q = c.index-b-x.is in
    record {
      first =
          item_summed _ 65535 a x _ _ _ so_far.first (omega arith) p
          (c.from-first.ensures ∙ c.into_u16.ensures.value) (omega arith);
      second =
          item_summed _ 65535 b x _ _ _ so_far.second (omega arith) q
          (c.from-second.ensures ∙ c.into_u16-in-loop-x.ensures.value) (omega arith);
      first_squares =
          item_halves_summed _ a x _ _ _ _ _ _ so_far.first_squares (omega arith) p c.product_of-first_square.ensures (omega arith)
          c.low_half-first_low.ensures c.high_half-first_high.ensures;
      second_squares =
          item_halves_summed _ b x _ _ _ _ _ _ so_far.second_squares (omega arith) q c.product_of-second_square.ensures
          (omega arith) c.low_half-second_low.ensures c.high_half-second_high.ensures;
      products =
          pair_halves_summed _ 0 a b c.requires.same x _ _ _ _ _ _ _ so_far.products (omega arith) p q
          c.product_of-product.ensures (omega arith) c.low_half-low.ensures c.high_half-high.ensures;
    }

pub returns-clause-value : goal.returns-clause-value
returns-clause-value g c =
    let a = c.args.a.now in let b = c.args.b.now in let x = c.loop-x.x in let so_far = c.loop-x.invariant in record {
      first = c.from.ensures ∙ all_summed _ 65535 a x _ so_far.first (omega arith);
      second = c.from-2.ensures ∙ all_summed _ 65535 b x _ so_far.second (omega arith);
      first_squares = c.joined_halves.ensures ∙ all_halves_summed _ a x _ _ so_far.first_squares (omega arith);
      second_squares = c.joined_halves-2.ensures ∙ all_halves_summed _ b x _ _ so_far.second_squares (omega arith);
      products =
          c.joined_halves-3.ensures ∙ all_pair_halves_summed _ 0 a b c.requires.same x _ _ so_far.products (omega arith);
    }
