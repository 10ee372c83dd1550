-- The loop step handles one more pair, which may have a larger difference. After the last step, all pairs are handled.
use Rattle.std.proofs.Common.{arith}
use Rattle.v_frame_measures.proofs.Differing.{read_pair, none_below, one_more}
use Rattle.v_frame_measures.proofs.differences.greatest_of_rows.Goals as goal
use Rattle.v_frame_measures.proofs.differences.greatest_of_rows.Goals.{then-into_u16, else-into_u16}

pub loop-x-init : goal.loop-x-init
loop-x-init g c =
    let value = g.T.Pixel.form.value in let row = c.args.row.now in let other = c.args.other.now in
    let here =
    read_pair value row other 0 _ _ _ c.requires.same c.requires.some c.index-row-0.is c.index-other-0.is
    c.pixel_of_difference-greatest.ensures in
    record {
      bound = one_more value row other 0 0 _ _ (none_below value row other) here (omega arith) (omega arith);
      there = (0, here);
    }

pub loop-x-preserved : goal.loop-x-preserved
loop-x-preserved g c =
    let value = g.T.Pixel.form.value in let row = c.args.row.now in let other = c.args.other.now in
    let x = c.loop-x.x in let so_far = c.loop-x.invariant in
    let here =
    read_pair value row other x _ _ _ c.requires.same (omega arith) c.index-row-x.is c.index-other-x.is
    c.pixel_of_difference-difference.ensures in
    let now = c.into_u16.ensures.value in let before = c.into_u16-in-loop-x.ensures.value in
    elim c.if-into_u16.branch [
      | then-into_u16 w ↦ rw w.greatest-is (record {
        bound =
            one_more value row other x _ _ _ so_far.bound here (omega (arith, now, before, w.if-into_u16.true)) (omega arith);
        there = (x, here);
      })
      | else-into_u16 w ↦ rw w.greatest-is (record {
        bound =
            one_more value row other x _ _ _ so_far.bound here (omega arith) (omega (arith, now, before, w.if-into_u16.false));
        there = so_far.there;
      })
    ]

pub returns-clause-bound : goal.returns-clause-bound
returns-clause-bound g c = λ i d below differ.
    omega (arith, c.into_u16-2.ensures.value, c.loop-x.invariant.bound i d (omega arith) differ)

pub returns-clause-there : goal.returns-clause-there
returns-clause-there g c = rw c.into_u16-2.ensures.value c.loop-x.invariant.there
