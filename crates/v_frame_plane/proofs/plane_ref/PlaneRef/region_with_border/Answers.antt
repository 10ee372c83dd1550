-- The region shows its rectangle of all rows of the buffer.
use Rattle.v_frame_raster.specs.Raster.{Raster, raster}
use Rattle.v_frame_raster.proofs.SignedPlaces.{as_it_is}
use Rattle.v_frame_raster.proofs.tables.Regions.{buffer_region_shows}
use Rattle.v_frame_plane.proofs.plane_ref.PlaneRef.region_with_border.Goals as goal

pub returns-clause-table : goal.returns-clause-table
returns-clause-table g c =
    let p : Raster g.row.T.Denot = raster c.self.inside.geometry c.self.inside.buffer.now in
    let region = rw (as_it_is c.args.x c.ranges.x, as_it_is c.args.y c.ranges.y) at c.in_ok-geometry.ensures.value in
    rw (c.of_parts.ensures, region.1, ← c.self.view_is)
    (buffer_region_shows p c.args.x c.args.y c.args.width c.args.height region.0)
