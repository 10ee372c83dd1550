-- The lent parts are two rows of the table, and their final values replace them.
use Rattle.std.proofs.Common.{◌<◌, refl, arith}
use Rattle.v_frame_raster.specs.Raster.{Raster, raster}
use Rattle.v_frame_raster.proofs.tables.OwnPlaces.{row_ends_above}
use Rattle.v_frame_plane.proofs.tables.RowPairs.{writes_each_pair}
use Rattle.v_frame_raster.proofs.tables.Places.{row_at, row_wide}
use Rattle.v_frame_plane.proofs.plane.pairs.visible_rows_mut.Goals as goal

pub two_parts-requires-clause-order : goal.two_parts-requires-clause-order
two_parts-requires-clause-order g c =
    row_ends_above c.args.geometry c.args.y c.args.z c.row_start-start.result c.row_start-next.result
    c.width-width.result
    c.requires.order
    c.row_start-start.ensures.place c.row_start-next.ensures.place c.width-width.ensures.value

pub returns : goal.returns
returns g c =
    let y = c.args.y in let z = c.args.z in let lent = c.two_parts.result in let n = c.width-width.result in
    let p : Raster g.row.T.Denot = raster c.args.geometry c.args.buffer.now in let whole = c.requires.whole.whole in
    let start = c.row_start-start.ensures.place in let next = c.row_start-next.ensures.place in let width =
    c.width-width.ensures.value in
    let upper : y < p.geometry.height = omega (arith, c.requires.order, c.requires.high) in
    let first = row_at p whole y c.row_start-start.result n lent.0.now upper start width c.two_parts.ensures.first in
    let second = row_at p whole z c.row_start-next.result n lent.1.now c.requires.high next width
    c.two_parts.ensures.second in (
      ((refl, refl), λ row other. rw (start, next, width) refl),
      record {
        writes_back = tt;
        first = first;
        second = second;
        first_wide = row_wide p whole y lent.0.now first;
        second_wide = row_wide p whole z lent.1.now second;
        written = writes_each_pair p whole y z lent.0.now lent.1.now c.requires.order c.requires.high first second;
      },
    )
