-- The loop step: one more window.
use Rattle.std.proofs.Common.{ap, ◌∙◌, arith}
use Rattle.v_frame_measures.specs.BlockSums.{window_of}
use Rattle.v_frame_measures.specs.Ssim.{similarity_of}
use Rattle.v_frame_measures.proofs.Lines.{one_more_added}
use Rattle.v_frame_measures.proofs.similarity.blocks.BlockSums.add_windows.Goals as goal

pub loop-k-preserved : goal.loop-k-preserved
loop-k-preserved g c =
    let constants = c.args.constants.now in let k = c.loop-k.k in
    c.with_window-sum.ensures
    ∙ one_more_added g.F.LineSum.format (λ i. similarity_of constants (window_of c.args.self.now c.args.below.now i)) 0 k k
    (g.F.LineSum.float c.args.sum) _ _ (omega arith) c.loop-k.invariant
    (c.similarity.ensures ∙ ap (similarity_of constants) c.window.ensures)
