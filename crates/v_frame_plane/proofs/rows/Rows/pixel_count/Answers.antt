-- Each remaining row has its full width.
use Rattle.std.proofs.Common.{refl}
use Rattle.v_frame_plane.specs.Cursor.{rows_ahead}
use Rattle.v_frame_plane.proofs.iterators.Cursors.{count_of_rows, rows_are_long, pixels_of_rows}
use Rattle.v_frame_plane.proofs.rows.Rows.pixel_count.Goals as goal

pub returns : goal.returns
returns g c =
    let a = c.self.inside in
    let rows = rows_ahead a.start a.width a.gap a.count a.rest.now in
    let pixels = pixels_of_rows a.width rows (rows_are_long a.start a.width a.gap a.count a.rest.now
    c.self.invariant.within) in
    rw (← c.self.view_is, pixels, count_of_rows a.start a.width a.gap a.count a.rest.now) refl
