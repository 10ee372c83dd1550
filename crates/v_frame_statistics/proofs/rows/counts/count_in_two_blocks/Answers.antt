-- The loop step counts one more pair. After the last step, all pairs are counted.
use Rattle.std.proofs.Common.{◌≤◌, cond, arith, length}
use Rattle.std.specs.Prelude.{zip}
use Rattle.std.proofs.lemmas.List.{take_all}
use Rattle.v_frame_statistics.specs.Count.{passing_pairs}
use Rattle.v_frame_statistics.proofs.ListSums.{byte_of_bool, sum_by-pair_more, zip-length}
use Rattle.v_frame_statistics.proofs.rows.counts.count_in_two_blocks.Goals as goal

pub loop-i-preserved : goal.loop-i-preserved
loop-i-preserved g c =
    let one = byte_of_bool c.test.result in record {
      so_far = λ t says.
          let said = says _ _ _ c.test.ensures in
          omega (
            arith,
            c.from-count.ensures,
            rw said at one.0,
            rw said at c.from-count.ensures,
            c.loop-i.invariant.so_far t says,
            sum_by-pair_more (λ pair. cond (t pair.0 pair.1) 1 0) c.args.block.now c.args.other.now c.loop-i.i _ _
                c.requires.same c.loop-i-test.true c.index-block-i.is c.index-other-i.is,
          );
      bound = omega (arith, c.from-count.ensures, one.1, c.loop-i.invariant.bound);
    }

pub returns-clause-value : goal.returns-clause-value
unfolding passing_pairs
returns-clause-value g c = λ t says.
    let pairs = zip c.args.block.now c.args.other.now in
    let all : length pairs ≤ c.loop-i.i = omega (arith, zip-length c.args.block.now c.args.other.now c.requires.same) in
    rw (take_all c.loop-i.i pairs all) at (c.loop-i.invariant.so_far t says)
