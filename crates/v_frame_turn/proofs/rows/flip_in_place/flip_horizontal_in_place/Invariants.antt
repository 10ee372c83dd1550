-- The rows processed so far are mirrored, and everything else is unchanged.
use Rattle.std.proofs.Common.{map, reverse}
use Rattle.v_frame.specs.Prelude.{strided_rows}
use Rattle.v_frame_raster.proofs.tables.StridedWrites.{WrittenBelow}
use Rattle.v_frame_turn.proofs.rows.flip_in_place.flip_horizontal_in_place.Given as goal

abbrev pub invariant-loop-y : goal.invariant-loop-y
invariant-loop-y g l = WrittenBelow l.width l.height l.stride
    (map reverse (strided_rows l.width l.height l.stride l.initial.buffer)) l.initial.buffer l.buffer l.y
