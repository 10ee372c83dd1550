-- The rows processed so far are the rows of the expected table, and everything else is unchanged.
use Rattle.v_frame_raster.proofs.tables.StridedWrites.{WrittenBelow}
use Rattle.v_frame_convert.specs.Depth.{pixel_of_depth}
use Rattle.v_frame_convert.specs.Scale.{scaled}
use Rattle.v_frame_convert.proofs.rows.scale.scale_rows.Given as goal

abbrev pub invariant-loop-y : goal.invariant-loop-y
invariant-loop-y g l =
    WrittenBelow l.width l.height l.stride (scaled g.S.Pixel.form (pixel_of_depth g.T.Pixel.form l.change.from l.change.to)
    l.across l.down l.width l.height l.source) l.initial.buffer l.buffer l.y
