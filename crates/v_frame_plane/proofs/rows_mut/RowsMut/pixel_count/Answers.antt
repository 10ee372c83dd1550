-- Each remaining row has its full width.
use Rattle.std.proofs.Common.{◌*◌, sym, ◌∙◌, ap}
use Rattle.v_frame_plane.specs.RowsLeft.{rows_left}
use Rattle.v_frame_plane.proofs.iterators.Cursors.{count_of_rows, rows_are_long, pixels_of_rows}
use Rattle.v_frame_plane.proofs.rows_mut.RowsMut.pixel_count.Goals as goal

pub returns : goal.returns
unfolding rows_left
returns g c =
    let a = c.args.self.now in
    let pixels = pixels_of_rows a.width (rows_left a)
    (rows_are_long a.start a.width a.gap a.count a.rest.now a.within.within) in
    sym (pixels ∙ ap (λ n. n * a.width) (count_of_rows a.start a.width a.gap a.count a.rest.now))
