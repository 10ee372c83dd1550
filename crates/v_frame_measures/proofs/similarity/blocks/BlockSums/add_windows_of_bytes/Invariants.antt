-- The windows processed so far are added.
use Rattle.std.proofs.Common.{◌≡◌, ◌+◌, ◌*◌, min}
use Rattle.std.specs.List.{fold}
use Rattle.std.specs.Float.Ieee.{add}
use Rattle.v_frame_measures.specs.BlockSums.{similarities_of}
use Rattle.v_frame_measures.proofs.similarity.blocks.BlockSums.add_windows_of_bytes.Given as goal

abbrev pub invariant-loop-eight : goal.invariant-loop-eight
invariant-loop-eight g l =
    g.F.LineSum.float l.sum
    ≡ fold (add g.F.LineSum.format) (g.F.LineSum.float l.fn.sum)
    (similarities_of l.constants l.self l.below 0 (min (8 * l.eight) l.windows))

abbrev pub invariant-loop-i : goal.invariant-loop-i
invariant-loop-i g l =
    g.F.LineSum.float l.sum
    ≡ fold (add g.F.LineSum.format) (g.F.LineSum.float l.fn.sum) (similarities_of l.constants l.self l.below 0 (l.k + l.i))
