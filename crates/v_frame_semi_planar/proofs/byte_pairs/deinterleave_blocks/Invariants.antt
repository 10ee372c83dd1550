-- The pixels so far, interleaved, are those of the row.
use Rattle.std.proofs.Common.{◌*◌}
use Rattle.v_frame_semi_planar.proofs.Interleaving.{FirstApart}
use Rattle.v_frame_semi_planar.proofs.byte_pairs.deinterleave_blocks.Given as goal

abbrev pub invariant-loop-block : goal.invariant-loop-block
invariant-loop-block g l = FirstApart l.row l.first l.second (16 * l.block)
