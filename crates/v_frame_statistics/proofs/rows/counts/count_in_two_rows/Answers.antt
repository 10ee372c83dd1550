-- The loop step adds one more block. After the loop, the rest of the rows is added.
use Rattle.std.proofs.Common.{◌≡◌, ◌+◌, ◌-◌, ◌*◌, ◌/◌, cond, arith, length}
use Rattle.std.specs.Prelude.{zip}
use Rattle.v_frame_statistics.specs.Count.{passing_pairs}
use Rattle.v_frame_statistics.proofs.ListSums.{sum_by-piece, sum_by-rest, zip-piece, zip-length}
use Rattle.v_frame_statistics.proofs.rows.counts.count_in_two_rows.Goals as goal

pub loop-block-preserved : goal.loop-block-preserved
unfolding passing_pairs
loop-block-preserved g c =
    let at = 128 * c.loop-block.block in
    let cut : at + 128 - at ≡ 128 = omega arith in
    let pairs = zip c.args.row.now c.args.other.now in record {
      so_far = λ t says. omega (
        arith,
        rw (cut, zip-piece at 128 c.args.row.now c.args.other.now) at (c.count_in_two_blocks.ensures.value t says),
        c.loop-block.invariant.so_far t says,
        sum_by-piece (λ pair. cond (t pair.0 pair.1) 1 0) pairs 128 c.loop-block.block,
      );
      bound = omega arith;
    }

pub returns-clause-value : goal.returns-clause-value
unfolding passing_pairs
returns-clause-value g c = λ t says.
    let row = c.args.row.now in let other = c.args.other.now in
    let blocks = length row / 128 in let at = 128 * blocks in
    let done : c.loop-block.block ≡ blocks = omega arith in
    let long = zip-length row other c.requires.same in
    omega (
      arith,
      rw (c.requires.same, zip-piece at (length row - at) row other) at (c.count_in_two_blocks-2.ensures.value t says),
      rw done at (c.loop-block.invariant.so_far t says),
      rw long at (sum_by-rest (λ pair. cond (t pair.0 pair.1) 1 0) (zip row other) at),
    )
