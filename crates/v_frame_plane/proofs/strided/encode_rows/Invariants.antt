-- The rows so far are the bytes of the rows of the source, and everything else is unchanged.
use Rattle.std.proofs.Common.{map}
use Rattle.v_frame_raster.specs.Pixel.{bytes_of_pixels}
use Rattle.v_frame_raster.proofs.tables.StridedWrites.{WrittenBelow}
use Rattle.v_frame_plane.proofs.strided.encode_rows.Given as goal

abbrev pub invariant-loop-y : goal.invariant-loop-y
invariant-loop-y g l = WrittenBelow l.width l.height l.stride (map (bytes_of_pixels g.T.Pixel.form) l.source)
    l.initial.buffer l.buffer l.y
