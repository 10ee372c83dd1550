-- The rows so far come from the rows of the source, and everything else is unchanged.
use Rattle.std.proofs.Common.{map}
use Rattle.v_frame_raster.proofs.tables.StridedWrites.{WrittenBelow}
use Rattle.v_frame_plane.proofs.encoding.write_rows.Given as goal

abbrev pub invariant-loop-y : goal.invariant-loop-y
invariant-loop-y g l = WrittenBelow l.width l.height l.stride (map (g.E.Encoding.row_of l.width) l.source)
    l.initial.buffer l.buffer l.y
