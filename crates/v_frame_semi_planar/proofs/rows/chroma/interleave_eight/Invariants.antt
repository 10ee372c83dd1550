-- The pixels so far are those of the interleaved array.
use Rattle.std.proofs.Common.{◌≡◌, take}
use Rattle.v_frame_semi_planar.proofs.rows.chroma.interleave_eight.Given as goal

abbrev pub invariant-loop-x : goal.invariant-loop-x
invariant-loop-x g l = take l.x l.row ≡ take l.x l.pairs
