-- The loop step counts one more row. After the last step, all rows are counted.
use Rattle.std.proofs.Common.{◌≡◌, ◌+◌, ◌*◌, length, cond, arith}
use Rattle.std.proofs.lemmas.List.{drop_all}
use Rattle.v_frame.specs.Prelude.{width_of}
use Rattle.v_frame_raster.proofs.SumsOfPairs.{sum_of_pairs-adds_up}
use Rattle.v_frame_statistics.specs.Count.{passing_pairs}
use Rattle.v_frame_statistics.proofs.rows.counts.count_pairs.Goals as goal

pub loop-y-preserved : goal.loop-y-preserved
unfolding passing_pairs
loop-y-preserved g c =
    let first = c.visible_row in let second = c.visible_row-in-loop-y in
    let same : length first.result.now ≡ length second.result.now =
    omega (arith, first.ensures.wide, second.ensures.wide, c.requires.wide) in record {
      so_far = λ t says. omega (
        arith,
        c.count_in_two_rows-count.ensures.value t says,
        c.loop-y.invariant.so_far t says,
        (sum_of_pairs-adds_up (λ pair. cond (t pair.0 pair.1) 1 0)).by_rows c.args.a.now c.args.b.now c.loop-y.y
            first.result.now second.result.now first.ensures.value second.ensures.value same,
      );
      bound =
          let rows = c.loop-y.y in let width = width_of c.args.a.now in
          let next : (rows + 1) * width ≡ rows * width + width = omega arith in
          omega (arith, next, c.count_in_two_rows-count.ensures.bound, first.ensures.wide, c.loop-y.invariant.bound);
    }

pub returns-clause-value : goal.returns-clause-value
unfolding passing_pairs
returns-clause-value g c = λ t says.
    let none = drop_all c.loop-y.y c.args.a.now (omega arith) in
    omega (arith, rw none at (c.loop-y.invariant.so_far t says))
