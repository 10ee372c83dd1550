-- One more block, one more pair, and the whole sum.
use Rattle.std.proofs.Common.{lit<, arith}
use Rattle.std.proofs.lemmas.Grind.{common_steps}
use Rattle.v_frame_raster.proofs.SumsOfPairs.{sums_up_to-piece_more}
use Rattle.v_frame_raster.proofs.row_sums.sum_by_pieces.Goals as goal

pub loop-block-preserved : goal.loop-block-preserved
loop-block-preserved g c =
    rw c.from-sum.ensures
    (sums_up_to-piece_more (λ p. g.D.Difference.between p.0 p.1) 32 _ _ _ c.args.a.now c.args.b.now (lit< tt)
    c.of_blocks.type_inv c.of_blocks.ensures c.loop-block.invariant)

pub loop-eight-preserved : goal.loop-eight-preserved
loop-eight-preserved g c =
    rw c.from-sum-in-loop-eight.ensures
    (sums_up_to-piece_more (λ p. g.D.Difference.between p.0 p.1) 8 _ _ _ c.args.a.now c.args.b.now (lit< tt)
    c.of_eights.type_inv c.of_eights.ensures c.loop-eight.invariant)

pub loop-i-preserved : goal.loop-i-preserved
loop-i-preserved g c = grind (arith, common_steps)

pub returns : goal.returns
returns g c = grind (arith, common_steps)
