-- The pixels so far are interleaved.
use Rattle.v_frame_semi_planar.proofs.Interleaving.{ByTurnsBelow}
use Rattle.v_frame_semi_planar.proofs.rows.chroma.interleave_pixels.Given as goal

abbrev pub invariant-loop-x : goal.invariant-loop-x
invariant-loop-x g l = ByTurnsBelow l.first l.second l.row l.x
