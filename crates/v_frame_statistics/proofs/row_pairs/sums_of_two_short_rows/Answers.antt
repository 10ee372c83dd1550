-- The loop step adds one more pixel of each row. After the last step, the sums are complete.
use Rattle.std.proofs.Common.{arith, ◌∙◌}
use Rattle.v_frame_statistics.proofs.PairSteps.{pair_summed, all_pairs_summed}
use Rattle.v_frame_statistics.proofs.SumSteps.{item_summed, all_summed}
use Rattle.v_frame_statistics.proofs.row_pairs.sums_of_two_short_rows.Goals as goal

pub loop-x-preserved : goal.loop-x-preserved
loop-x-preserved g c =
    let a = c.args.a.now in let b = c.args.b.now in let x = c.loop-x.x in let so_far = c.loop-x.invariant in
    let p = c.index-a-x.is in let q = c.index-b-x.is in
    record {
      first =
          item_summed _ 65535 a x _ _ _ so_far.first (omega arith) p
          (c.from-first.ensures ∙ c.into_u16.ensures.value) (omega arith);
      second =
          item_summed _ 65535 b x _ _ _ so_far.second (omega arith) q
          (c.from-second.ensures ∙ c.into_u16-in-loop-x.ensures.value) (omega arith);
      first_squares =
          item_summed _ 4294967295 a x _ _ _ so_far.first_squares (omega arith) p
          (c.from-first_squares.ensures ∙ c.product_of-first_square.ensures) (omega (arith, c.from-first_squares.ensures));
      second_squares =
          item_summed _ 4294967295 b x _ _ _ so_far.second_squares (omega arith) q
          (c.from-second_squares.ensures ∙ c.product_of-second_square.ensures) (omega (arith, c.from-second_squares.ensures));
      products =
          pair_summed _ 4294967295 a b c.requires.same x _ _ _ _ so_far.products (omega arith) p q
          (c.from-products.ensures ∙ c.product_of-product.ensures) (omega (arith, c.from-products.ensures));
    }

pub returns-clause-value : goal.returns-clause-value
returns-clause-value g c =
    let a = c.args.a.now in let b = c.args.b.now in let x = c.loop-x.x in let so_far = c.loop-x.invariant in record {
      first = c.from.ensures ∙ all_summed _ 65535 a x _ so_far.first (omega arith);
      second = c.from-2.ensures ∙ all_summed _ 65535 b x _ so_far.second (omega arith);
      first_squares = c.from-3.ensures ∙ all_summed _ 4294967295 a x _ so_far.first_squares (omega arith);
      second_squares = c.from-4.ensures ∙ all_summed _ 4294967295 b x _ so_far.second_squares (omega arith);
      products = c.from-5.ensures ∙ all_pairs_summed _ 4294967295 a b c.requires.same x _ so_far.products (omega arith);
    }
