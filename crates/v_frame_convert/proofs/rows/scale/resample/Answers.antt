-- If a depth fits a type of pixels, its values fit the type.
use Rattle.v_frame_convert.proofs.Depths.{depth_within}
use Rattle.v_frame_convert.proofs.rows.scale.resample.Goals as goal

pub scale_rows-requires-clause-depth : goal.scale_rows-requires-clause-depth
scale_rows-requires-clause-depth g c κs within =
    rw c.new-change.ensures.to (depth_within g.T.Pixel.BYTES c.args.to c.requires.to.high)

pub returns-clause-table : goal.returns-clause-table
returns-clause-table g c = rw (← c.new-change.ensures.from, ← c.new-change.ensures.to) c.scale_rows.ensures.table
