-- The loop step adds one more pixel of each block. After the last step, the sums are complete.
use Rattle.std.proofs.Common.{arith, ◌∙◌}
use Rattle.v_frame_statistics.proofs.PairSteps.{pair_summed, all_pairs_summed}
use Rattle.v_frame_statistics.proofs.SumSteps.{item_summed, all_summed}
use Rattle.v_frame_statistics.proofs.row_pairs.sums_of_two_small_blocks.Goals as goal

pub loop-x-preserved : goal.loop-x-preserved
loop-x-preserved g c =
    let a = c.args.a.now in let b = c.args.b.now in let x = c.loop-x.x in let so_far = c.loop-x.invariant in
    let small_p = rw (← c.index-a-x.is) at (c.requires.first x c.index-a-x.result (omega arith)) in
    let small_q = rw (← c.index-b-x.is) at (c.requires.second x c.index-b-x.result (omega arith)) in
    record {
      first =
          item_summed _ 1023 a x _ _ _ so_far.first (omega arith) c.index-a-x.is
          (c.from-first.ensures ∙ c.into_u16.ensures.value) (omega (arith, small_p));
      second =
          item_summed _ 1023 b x _ _ _ so_far.second (omega arith) c.index-b-x.is
          (c.from-second.ensures ∙ c.into_u16-in-loop-x.ensures.value) (omega (arith, small_q));
      first_squares =
          item_summed _ 1046529 a x _ _ _ so_far.first_squares (omega arith) c.index-a-x.is
          c.product_of_small-first_squares.ensures.value c.product_of_small-first_squares.ensures.bound;
      second_squares =
          item_summed _ 1046529 b x _ _ _ so_far.second_squares (omega arith) c.index-b-x.is
          c.product_of_small-second_squares.ensures.value c.product_of_small-second_squares.ensures.bound;
      products =
          pair_summed _ 1046529 a b c.requires.same x _ _ _ _ so_far.products (omega arith)
          c.index-a-x.is c.index-b-x.is c.product_of_small-products.ensures.value
          c.product_of_small-products.ensures.bound;
    }

pub returns-clause-value : goal.returns-clause-value
returns-clause-value g c =
    let a = c.args.a.now in let b = c.args.b.now in let x = c.loop-x.x in let so_far = c.loop-x.invariant in record {
      first = c.from.ensures ∙ all_summed _ 1023 a x _ so_far.first (omega arith);
      second = c.from-2.ensures ∙ all_summed _ 1023 b x _ so_far.second (omega arith);
      first_squares = c.from-3.ensures ∙ all_summed _ 1046529 a x _ so_far.first_squares (omega arith);
      second_squares = c.from-4.ensures ∙ all_summed _ 1046529 b x _ so_far.second_squares (omega arith);
      products = c.from-5.ensures ∙ all_pairs_summed _ 1046529 a b c.requires.same x _ so_far.products (omega arith);
    }
