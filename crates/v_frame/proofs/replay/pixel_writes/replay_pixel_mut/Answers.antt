-- Inside the rectangle, the pixel is read and replaced. Outside, nothing happens.
use Rattle.std.proofs.Common.{sym, arith}
use Rattle.v_frame_raster.specs.Raster.{table_of}
use Rattle.v_frame_raster.proofs.tables.Overwrites.{with_pixel_beside, with_row_below}
use Rattle.v_frame.proofs.replay.pixel_writes.replay_pixel_mut.Goals as goal
use Rattle.v_frame.proofs.replay.pixel_writes.replay_pixel_mut.Goals.{then-x-width-via-then-x-width}
use Rattle.v_frame.proofs.replay.pixel_writes.replay_pixel_mut.Goals.{then-x-width-via-else-x-width+then-y-height}

pub returns-then-x-width-clause-table : goal.returns-then-x-width-clause-table
returns-then-x-width-clause-table g c =
    let rows = table_of c.args.plane.now in
    elim c.then-x-width.branch [
      | then-x-width-via-then-x-width w ↦ sym (with_pixel_beside rows c.width.result c.args.x c.args.y c.args.value
          c.width.ensures.rows w.if-x-width.true)
      | then-x-width-via-else-x-width+then-y-height w ↦ sym
          (with_row_below _ rows c.args.y (omega (arith, w.height.ensures.table, w.if-y-height.true)))
    ]
