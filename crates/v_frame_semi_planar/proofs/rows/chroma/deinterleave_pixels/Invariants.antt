-- The pixels so far, interleaved, are those of the row.
use Rattle.v_frame_semi_planar.proofs.Interleaving.{ByTurnsBelow}
use Rattle.v_frame_semi_planar.proofs.rows.chroma.deinterleave_pixels.Given as goal

abbrev pub invariant-loop-x : goal.invariant-loop-x
invariant-loop-x g l = ByTurnsBelow l.first l.second l.row l.x
