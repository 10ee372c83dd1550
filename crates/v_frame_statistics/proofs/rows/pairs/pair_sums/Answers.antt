-- The loop step adds one more row of each picture. After the last step, the sums are complete.
use Rattle.std.proofs.Common.{◌≡◌, length, arith}
use Rattle.v_frame_statistics.proofs.PairSteps.{row_pairs_summed, all_row_pairs_summed}
use Rattle.v_frame_statistics.proofs.SumSteps.{row_summed, all_rows_summed}
use Rattle.v_frame_statistics.proofs.rows.pairs.pair_sums.Goals as goal

pub loop-y-preserved : goal.loop-y-preserved
loop-y-preserved g c =
    let a = c.args.a.now in let b = c.args.b.now in let y = c.loop-y.y in let so_far = c.loop-y.invariant in
    let row_a = c.visible_row.ensures in let row_b = c.visible_row-in-loop-y.ensures in
    let same : length c.visible_row.result.now ≡ length c.visible_row-in-loop-y.result.now =
    omega (arith, row_a.wide, row_b.wide, c.requires.wide) in
    let here = c.sums_of_two_rows-here.ensures.value in
    let few = c.sums_of_two_rows-here.ensures.bound in record {
      first = row_summed _ 4294967296 a y _ _ _ so_far.first row_a.value row_a.wide here.first few.first;
      second =
          row_summed _ 4294967296 b y _ _ _ so_far.second row_b.value row_b.wide here.second
          (omega (arith, same, few.second));
      first_squares =
          row_summed _ 4294967296 a y _ _ _ so_far.first_squares row_a.value row_a.wide here.first_squares
          few.first_squares;
      second_squares =
          row_summed _ 4294967296 b y _ _ _ so_far.second_squares row_b.value row_b.wide here.second_squares
          (omega (arith, same, few.second_squares));
      products =
          row_pairs_summed _ 4294967296 a b y _ _ _ _ so_far.products row_a.value row_b.value same row_a.wide
          here.products few.products;
    }

pub returns : goal.returns
returns g c =
    let a = c.args.a.now in let b = c.args.b.now in let y = c.loop-y.y in let so_far = c.loop-y.invariant in record {
      first = all_rows_summed _ 4294967296 a y _ so_far.first (omega arith);
      second = all_rows_summed _ 4294967296 b y _ so_far.second (omega arith);
      first_squares = all_rows_summed _ 4294967296 a y _ so_far.first_squares (omega arith);
      second_squares = all_rows_summed _ 4294967296 b y _ so_far.second_squares (omega arith);
      products = all_row_pairs_summed _ 4294967296 a b y _ so_far.products (omega arith);
    }
