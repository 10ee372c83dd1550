-- The windows processed so far are added.
use Rattle.std.proofs.Common.{◌≡◌}
use Rattle.std.specs.List.{fold}
use Rattle.std.specs.Float.Ieee.{add}
use Rattle.v_frame_measures.specs.BlockSums.{similarities_of}
use Rattle.v_frame_measures.proofs.similarity.blocks.BlockSums.add_windows.Given as goal

abbrev pub invariant-loop-k : goal.invariant-loop-k
invariant-loop-k g l =
    g.F.LineSum.float l.sum ≡ fold (add g.F.LineSum.format) (g.F.LineSum.float l.initial.sum) (similarities_of l.constants l.self l.below 0 l.k)
