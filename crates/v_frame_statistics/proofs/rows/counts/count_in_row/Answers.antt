-- The loop step handles one more block. After the loop, the rest of the row is handled.
use Rattle.std.proofs.Common.{◌≡◌, ◌+◌, ◌-◌, ◌*◌, ◌/◌, cond, arith, length}
use Rattle.v_frame_statistics.proofs.ListSums.{sum_by-piece, sum_by-rest}
use Rattle.v_frame_statistics.proofs.rows.counts.count_in_row.Goals as goal

pub loop-block-preserved : goal.loop-block-preserved
loop-block-preserved g c =
    let at = 128 * c.loop-block.block in
    let cut : at + 128 - at ≡ 128 = omega arith in record {
      so_far = λ t says. omega (
        arith,
        rw cut at (c.count_in_block.ensures.value t says),
        c.loop-block.invariant.so_far t says,
        sum_by-piece (λ p. cond (t p) 1 0) c.args.row.now 128 c.loop-block.block,
      );
      bound = omega arith;
    }

pub returns-clause-value : goal.returns-clause-value
returns-clause-value g c = λ t says.
    let blocks = length c.args.row.now / 128 in
    let done : c.loop-block.block ≡ blocks = omega arith in
    omega (
      arith,
      c.count_in_block-2.ensures.value t says,
      rw done at (c.loop-block.invariant.so_far t says),
      sum_by-rest (λ p. cond (t p) 1 0) c.args.row.now (128 * blocks),
    )
