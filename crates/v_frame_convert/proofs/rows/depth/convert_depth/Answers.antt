-- If a depth fits a type of pixels, its values fit the type.
use Rattle.v_frame_convert.proofs.Depths.{depth_within}
use Rattle.v_frame_convert.proofs.rows.depth.convert_depth.Goals as goal

pub raise_rows-requires-clause-depth : goal.raise_rows-requires-clause-depth
raise_rows-requires-clause-depth g c κs within =
    rw c.new-change.ensures.to (depth_within g.T.Pixel.BYTES c.args.to c.requires.to.high)

pub change_rows-requires-clause-depth : goal.change_rows-requires-clause-depth
change_rows-requires-clause-depth g c κs within =
    rw c.new-change.ensures.to (depth_within g.T.Pixel.BYTES c.args.to c.requires.to.high)
