-- The pairs so far are summed.
use Rattle.std.proofs.Common.{◌*◌}
use Rattle.v_frame_raster.proofs.SumsOfPairs.{SumsUpTo}
use Rattle.v_frame_raster.proofs.row_sums.sum_by_pieces.Given as goal

abbrev pub invariant-loop-block : goal.invariant-loop-block
invariant-loop-block g l = SumsUpTo (λ p. g.D.Difference.between p.0 p.1) (32 * l.block) l.a l.b l.sum

abbrev pub invariant-loop-eight : goal.invariant-loop-eight
invariant-loop-eight g l = SumsUpTo (λ p. g.D.Difference.between p.0 p.1) (8 * l.eight) l.a l.b l.sum

abbrev pub invariant-loop-i : goal.invariant-loop-i
invariant-loop-i g l = SumsUpTo (λ p. g.D.Difference.between p.0 p.1) l.i l.a l.b l.sum
