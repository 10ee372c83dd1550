-- The rows processed so far have their final values, and everything else is unchanged.
use Rattle.v_frame_raster.proofs.tables.StridedWrites.{WrittenBelow}
use Rattle.v_frame_turn.specs.Turning.{flipped}
use Rattle.v_frame_turn.proofs.rows.flip.flip.Given as goal

abbrev pub invariant-loop-y : goal.invariant-loop-y
invariant-loop-y g l = WrittenBelow l.width l.height l.stride (flipped l.from_bottom l.mirrored l.source) l.initial.buffer
    l.buffer l.y
