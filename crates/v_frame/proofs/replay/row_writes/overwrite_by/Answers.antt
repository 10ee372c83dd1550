-- The row is overwritten by the writes of the draw.
use Rattle.std.proofs.Common.{◌∙◌, ap}
use Rattle.v_frame_raster.specs.Table.{overwritten_row}
use Rattle.v_frame.proofs.replay.row_writes.overwrite_by.Goals as goal

pub returns : goal.returns
returns g c = c.overwrite.ensures ∙ ap (overwritten_row c.args.row.now) c.as_slice.ensures
