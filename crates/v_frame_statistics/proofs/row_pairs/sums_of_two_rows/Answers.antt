-- The loop step adds one more block. After the loop, the rest of the rows is added.
use Rattle.std.proofs.Common.{◌≡◌, ◌+◌, ◌-◌, ◌*◌, ◌/◌, length, arith}
use Rattle.v_frame_statistics.proofs.PairSteps.{pair_block_summed, pair_rest_summed}
use Rattle.v_frame_statistics.proofs.SumSteps.{block_summed, rest_summed}
use Rattle.v_frame_statistics.proofs.row_pairs.sums_of_two_rows.Goals as goal

pub loop-block-preserved : goal.loop-block-preserved
loop-block-preserved g c =
    let a = c.args.a.now in let b = c.args.b.now in let k = c.loop-block.block in let so_far = c.loop-block.invariant in
    let at = 4096 * k in
    let cut : at + 4096 - at ≡ 4096 = omega arith in
    let here = rw cut at c.sums_of_two_blocks-here.ensures.value in
    let few = c.sums_of_two_blocks-here.ensures.bound in record {
      first =
          block_summed _ 4294967296 a 4096 k _ _ so_far.first here.first (omega (arith, few.first));
      second =
          block_summed _ 4294967296 b 4096 k _ _ so_far.second here.second (omega (arith, few.second));
      first_squares =
          block_summed _ 4294967296 a 4096 k _ _ so_far.first_squares here.first_squares
          (omega (arith, few.first_squares));
      second_squares =
          block_summed _ 4294967296 b 4096 k _ _ so_far.second_squares here.second_squares
          (omega (arith, few.second_squares));
      products =
          pair_block_summed _ 4294967296 a b c.requires 4096 k _ _ so_far.products here.products
          (omega (arith, few.products));
    }

pub returns-clause-value : goal.returns-clause-value
returns-clause-value g c =
    let a = c.args.a.now in let b = c.args.b.now in let blocks = length a / 4096 in let at = 4096 * blocks in
    let done : c.loop-block.block ≡ blocks = omega arith in
    let so_far = c.loop-block.invariant in
    let rest = c.sums_of_two_blocks-rest.ensures.value in record {
      first = rest_summed _ 4294967296 a at _ _ (rw done at so_far.first) rest.first;
      second = rest_summed _ 4294967296 b at _ _ (rw done at so_far.second) rest.second;
      first_squares = rest_summed _ 4294967296 a at _ _ (rw done at so_far.first_squares) rest.first_squares;
      second_squares = rest_summed _ 4294967296 b at _ _ (rw done at so_far.second_squares) rest.second_squares;
      products = pair_rest_summed _ 4294967296 a b c.requires at _ _ (rw done at so_far.products) rest.products;
    }
