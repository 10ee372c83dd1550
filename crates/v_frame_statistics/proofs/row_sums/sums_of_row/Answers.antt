-- The loop step handles one more block. After the loop, the rest of the row is handled.
use Rattle.std.proofs.Common.{◌≡◌, ◌+◌, ◌-◌, ◌*◌, ◌/◌, length, arith}
use Rattle.v_frame_statistics.proofs.SumSteps.{block_summed, rest_summed}
use Rattle.v_frame_statistics.proofs.row_sums.sums_of_row.Goals as goal

pub loop-block-preserved : goal.loop-block-preserved
loop-block-preserved g c =
    let row = c.args.row.now in let k = c.loop-block.block in let so_far = c.loop-block.invariant in let at = 4096 * k in
    let cut : at + 4096 - at ≡ 4096 = omega arith in
    let here = rw cut at c.sums_of_block-here.ensures.value in let few = c.sums_of_block-here.ensures.bound in record {
      values = block_summed _ 65536 row 4096 k _ _ so_far.values here.values (omega (arith, few.values));
      squares = block_summed _ 4294967296 row 4096 k _ _ so_far.squares here.squares (omega (arith, few.squares));
    }

pub returns-clause-value : goal.returns-clause-value
returns-clause-value g c =
    let row = c.args.row.now in let blocks = length row / 4096 in let at = 4096 * blocks in
    let done : c.loop-block.block ≡ blocks = omega arith in
    let so_far = c.loop-block.invariant in let rest = c.sums_of_block-rest.ensures.value in record {
      values = rest_summed _ 65536 row at _ _ (rw done at so_far.values) rest.values;
      squares = rest_summed _ 4294967296 row at _ _ (rw done at so_far.squares) rest.squares;
    }
