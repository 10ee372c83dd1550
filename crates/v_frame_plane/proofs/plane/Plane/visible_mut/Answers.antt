-- All entries from the first visible pixel on are lent, and their final values replace them.
use Rattle.std.proofs.Common.{◌≡◌, drop, refl, sym, ap, ◌∙◌}
use Rattle.v_frame_raster.specs.Geometry.{origin_of}
use Rattle.v_frame_raster.specs.Raster.{Raster, raster}
use Rattle.v_frame_plane.specs.Visible.{with_visible}
use Rattle.v_frame_plane.proofs.tables.Kept.{whole_with_part}
use Rattle.v_frame_plane.proofs.tables.VisibleWrites.{rest_of, lent_fit, lent_are, shows_each_list, keeps_border_of_each}
use Rattle.v_frame_plane.proofs.plane.Plane.visible_mut.Goals as goal

pub returns : goal.returns
unfolding with_visible
returns g c =
    let p : Raster g.row.T.Denot = raster c.self.inside.geometry c.self.inside.buffer in
    let origin = c.data_origin.ensures.value in let stride = c.stride-stride.ensures in
    let valid = c.width-width.ensures.valid in let whole = c.self.invariant.whole in
    let width = c.width-width.ensures.value in let height = c.height-height.ensures.value in
    let entries : c.part_mut-entries.result.now ≡ drop (origin_of p.geometry) p.buffer =
    c.part_mut-entries.ensures.value ∙ rest_of p.buffer c.data_origin.result c.alloc_size.result
    (whole ∙ sym c.alloc_size.ensures)
    ∙ ap (λ n. drop n p.buffer) origin in
    rw (← c.self.view_is) (
      (refl, λ w. rw origin refl),
      record {
        writes_back = tt;
        width = width;
        height = height;
        fit = rw (width, height, entries) (lent_fit p c.stride-stride.result stride valid whole);
        rows = rw (width, height, entries) (lent_are p c.stride-stride.result stride valid whole);
        written = rw (width, height, entries) (shows_each_list p c.stride-stride.result stride valid whole);
        border = rw (width, height, entries) (keeps_border_of_each p c.stride-stride.result stride valid whole);
      },
    )

pub invariant_of-self-lent : goal.invariant_of-self-lent
invariant_of-self-lent g c = λ w. whole_with_part c.self.inside.geometry c.self.inside.buffer c.data_origin.result
    w c.self.invariant
