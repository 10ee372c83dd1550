-- Outside the rectangle, the table has no pixel.
use Rattle.std.proofs.Common.{ap, sym, arith}
use Rattle.v_frame_raster.specs.Raster.{table_of}
use Rattle.v_frame.specs.Replay.{answer_of_pixel}
use Rattle.v_frame_raster.proofs.tables.Places.{no_pixel_beside, no_pixel_below}
use Rattle.v_frame.proofs.replay.reads.pixel_shown.Goals as goal
use Rattle.v_frame.proofs.replay.reads.pixel_shown.Goals.{then-x-width-via-then-x-width}
use Rattle.v_frame.proofs.replay.reads.pixel_shown.Goals.{then-x-width-via-else-x-width+then-y-height}

pub returns-then-x-width : goal.returns-then-x-width
returns-then-x-width g c =
    let rows = table_of c.args.plane.now in
    elim c.then-x-width.branch [
      | then-x-width-via-then-x-width w ↦ ap answer_of_pixel
          (sym (no_pixel_beside rows c.width.result c.args.x c.args.y c.width.ensures.rows
          w.if-x-width.true))
      | then-x-width-via-else-x-width+then-y-height w ↦ ap answer_of_pixel
          (sym (no_pixel_below rows c.args.x c.args.y (omega (
            arith,
            w.height.ensures.table,
            w.if-y-height.true,
          ))))
    ]
