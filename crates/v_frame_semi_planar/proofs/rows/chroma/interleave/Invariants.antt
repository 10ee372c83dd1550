-- The rows so far are those of the two sources, interleaved, and all other entries are unchanged.
use Rattle.v_frame_ops.specs.Change.{combined}
use Rattle.v_frame_raster.proofs.tables.StridedWrites.{WrittenBelow}
use Rattle.v_frame_semi_planar.specs.Interleaved.{interleaved}
use Rattle.v_frame_semi_planar.proofs.rows.chroma.interleave.Given as goal

abbrev pub invariant-loop-y : goal.invariant-loop-y
invariant-loop-y g l = WrittenBelow l.width l.height l.stride (combined interleaved l.first l.second) l.initial.buffer
    l.buffer l.y
