-- The lent entry is the pixel of the table, and its final value replaces it.
use Rattle.std.proofs.Common.{◌<◌, slice_get, refl, sym, ap, ◌∙◌, arith}
use Rattle.v_frame_raster.specs.Raster.{Raster, raster}
use Rattle.v_frame_plane.proofs.tables.Kept.{whole_with_entry}
use Rattle.v_frame_raster.proofs.tables.Places.{pixel_inside, place_within}
use Rattle.v_frame_raster.proofs.tables.Writes.{set_at, writes_each_pixel}
use Rattle.v_frame_plane.proofs.plane.Plane.visible_pixel_mut.Goals as goal

pub returns : goal.returns
returns g c =
    let p : Raster g.row.T.Denot = raster c.self.inside.geometry c.self.inside.buffer in
    let geometry = ap (λ (r : Raster g.row.T.Denot). r.geometry) c.self.view_is in
    let place = c.visible_place-place.ensures.place in
    let wide : c.args.x < p.geometry.width = omega (arith, c.requires.wide, ap (λ k. k.width) geometry) in
    let high : c.args.y < p.geometry.height = omega (arith, c.requires.high, ap (λ k. k.height) geometry) in
    let value = ap (slice_get p.buffer) (sym place) ∙ c.entry_mut.ensures.value in
    rw (← c.self.view_is) (
      (refl, λ w. set_at p c.args.x c.args.y c.visible_place-place.result w place),
      record {
        writes_back = tt;
        value = value;
        within = place_within p.geometry c.args.x c.args.y wide high;
        inside = sym (pixel_inside p c.args.x c.args.y wide high) ∙ value;
        written = writes_each_pixel p c.args.x c.args.y wide high c.self.invariant.whole;
      },
    )

pub invariant_of-self-lent : goal.invariant_of-self-lent
invariant_of-self-lent g c = λ w. whole_with_entry c.self.inside.geometry c.self.inside.buffer
    c.visible_place-place.result w c.self.invariant
