-- The rows processed so far are the rows of the expected table, and everything else is unchanged.
use Rattle.v_frame_raster.proofs.tables.StridedWrites.{WrittenBelow}
use Rattle.v_frame_convert.specs.Scale.{scaled}
use Rattle.v_frame_convert.specs.declared.scale.Scale.TheVariants.{Half}
use Rattle.v_frame_convert.proofs.rows.halve.downscale_to_edge.Given as goal

abbrev pub invariant-loop-y : goal.invariant-loop-y
invariant-loop-y g l =
    WrittenBelow l.width l.height l.stride
    (scaled g.T.Pixel.form g.T.Pixel.form.pixel_of Half Half l.width l.height l.source) l.initial.buffer l.buffer l.y
