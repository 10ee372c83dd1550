-- The loop step handles one more block. After the loop, the rest of the row is handled.
use Rattle.std.proofs.Common.{◌≡◌, ◌+◌, ◌-◌, ◌*◌, ◌/◌, length, arith}
use Rattle.v_frame_statistics.proofs.SumSteps.{block_summed, rest_summed}
use Rattle.v_frame_statistics.proofs.row_sums.values_of_row.Goals as goal

pub loop-block-preserved : goal.loop-block-preserved
loop-block-preserved g c =
    let at = 4096 * c.loop-block.block in
    let cut : at + 4096 - at ≡ 4096 = omega arith in
    rw (c.from-sum.ensures)
    (block_summed _ 65536 c.args.row.now 4096 c.loop-block.block c.loop-block.sum _ c.loop-block.invariant
    (rw cut at c.values_of_block.ensures.value) (omega (arith, c.values_of_block.ensures.bound)))

pub returns-clause-value : goal.returns-clause-value
returns-clause-value g c =
    let blocks = length c.args.row.now / 4096 in
    let done : c.loop-block.block ≡ blocks = omega arith in
    rw (c.from.ensures)
    (rest_summed _ 65536 c.args.row.now (4096 * blocks) c.loop-block.sum _ (rw done at c.loop-block.invariant)
    c.values_of_block-2.ensures.value)
