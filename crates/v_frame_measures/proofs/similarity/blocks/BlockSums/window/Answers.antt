-- The proof treats each of the four sums of a window.
use Rattle.v_frame_measures.proofs.Joined.{alike}
use Rattle.v_frame_measures.proofs.similarity.blocks.BlockSums.window.Goals as goal

pub returns : goal.returns
returns c =
    alike _ _ _ _ _ _ _ _ c.sum_of_window.ensures c.sum_of_window-2.ensures c.sum_of_window-3.ensures c.sum_of_window-4.ensures
