-- The blocks processed so far are summed.
use Rattle.std.proofs.Common.{◌*◌, min}
use Rattle.v_frame_measures.specs.BlockSums.{AreBlockSums}
use Rattle.v_frame_measures.proofs.similarity.blocks.BlockSums.sum_rows.Given as goal

abbrev pub invariant-loop-eight : goal.invariant-loop-eight
invariant-loop-eight g l = AreBlockSums g.T.Pixel.form.value l.x l.y l.a l.b (min (8 * l.eight) l.count) l.self
