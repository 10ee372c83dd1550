-- The entry at the index of a visible pixel is the pixel of the table.
use Rattle.std.proofs.Common.{◌<◌, length, sym, ◌∙◌, arith}
use Rattle.std.proofs.lemmas.Option.{slice_get-get_or}
use Rattle.v_frame_raster.specs.Raster.{Raster, raster}
use Rattle.v_frame_raster.proofs.tables.Places.{pixel_inside}
use Rattle.v_frame_plane.proofs.plane_ref.PlaneRef.visible_pixel.Goals as goal

pub returns : goal.returns
returns g c =
    let p : Raster g.row.T.Denot = raster c.self.inside.geometry c.self.inside.buffer.now in
    let within : c.visible_place.result < length p.buffer = omega
    (arith, c.visible_place.ensures.within, c.self.invariant.whole) in
    sym (pixel_inside c.args.self.now c.args.x c.args.y c.requires.wide c.requires.high)
    ∙ rw (← c.self.view_is, ← c.visible_place.ensures.place)
    (slice_get-get_or p.buffer c.visible_place.result c.index-self-visible_place.result within)
