-- The loop step tests one more index. At the last index the difference must have been found.
use Rattle.std.proofs.Common.{arith}
use Rattle.std.proofs.lemmas.Option.{slice_get_within}
use Rattle.v_frame_measures.proofs.Differing.{read_pair, not_here}
use Rattle.v_frame_measures.proofs.differences.first_place.Goals as goal

pub loop-x-preserved : goal.loop-x-preserved
loop-x-preserved g c =
    let value = g.T.Pixel.form.value in let row = c.args.row.now in let other = c.args.other.now in
    let here =
    read_pair value row other c.loop-x.x _ _ _ c.requires.same c.loop-x-test.true c.index-row-x.is c.index-other-x.is
    c.difference_of.ensures.value in
    not_here value row other c.loop-x.x c.args.difference _ c.loop-x.invariant here c.if-difference_of-difference.false

pub returns : goal.returns
returns g c =
    let there = c.requires.there in
    let within = slice_get_within c.args.row.now there.0 there.1.one there.1.first in
    absurd (c.loop-x.invariant there.0 (omega (arith, within)) there.1)
