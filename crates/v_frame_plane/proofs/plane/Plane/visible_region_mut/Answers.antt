-- All entries from the first pixel of the rectangle on are lent, and their final values replace them.
use Rattle.std.proofs.Common.{◌≡◌, drop, refl, sym, ap, ◌∙◌}
use Rattle.v_frame_buffer.specs.Part.{with_part}
use Rattle.v_frame_raster.specs.Geometry.{IsInside, IsGeometry, alloc_size_of, origin_of, region_geometry, stride_of}
use Rattle.v_frame_raster.specs.Raster.{Raster, raster}
use Rattle.v_frame_plane.specs.Visible.{with_visible_from}
use Rattle.v_frame_plane.proofs.tables.Kept.{whole_with_part}
use Rattle.v_frame_plane.proofs.tables.VisibleRegions.{region_fit, region_held, region_origin, writes_each_rectangle}
use Rattle.v_frame_plane.proofs.tables.VisibleWrites.{rest_of}
use Rattle.v_frame_plane.proofs.plane.Plane.visible_region_mut.Goals as goal

pub returns : goal.returns
unfolding with_visible_from
returns g c =
    let p : Raster g.row.T.Denot = raster c.self.inside.geometry c.self.inside.buffer in
    let x = c.args.x in let y = c.args.y in let w = c.args.width in let h = c.args.height in
    let is = c.visible_region-region.ensures.value in let whole = c.self.invariant.whole in
    let inside : IsInside p.geometry x y w h = rw (← c.self.view_is) at c.requires in
    let valid : IsGeometry (region_geometry p.geometry x y w h) = rw is at c.width.ensures.valid in
    let size : alloc_size_of (region_geometry p.geometry x y w h) ≡ alloc_size_of p.geometry =
    rw is at c.visible_region-region.ensures.size in
    let stride : c.stride-stride.result ≡ stride_of (region_geometry p.geometry x y w h) = rw is at c.stride-stride.ensures in
    let origin : c.data_origin.result ≡ origin_of (region_geometry p.geometry x y w h) =
    rw is at c.data_origin.ensures.value in
    let entries : c.part_mut-entries.result.now ≡ drop (origin_of (region_geometry p.geometry x y w h)) p.buffer =
    c.part_mut-entries.ensures.value ∙ rest_of p.buffer c.data_origin.result c.alloc_size.result
    (whole ∙ sym c.visible_region-region.ensures.size ∙ sym c.alloc_size.ensures)
    ∙ ap (λ n. drop n p.buffer) origin in
    rw (← c.self.view_is) (
      (
        refl,
        λ new. ap (λ n. raster p.geometry (with_part p.buffer n new))
            (origin ∙ region_origin p x y w h c.stride-stride.result inside valid size whole stride),
      ),
      record {
        writes_back = tt;
        width = c.width.ensures.value ∙ ap (λ r. r.width) is;
        height = c.height.ensures.value ∙ ap (λ r. r.height) is;
        fit = rw entries (region_fit p x y w h c.stride-stride.result inside valid size whole stride);
        rows = rw entries (region_held p x y w h c.stride-stride.result inside valid size whole stride);
        written = rw entries (writes_each_rectangle p x y w h c.stride-stride.result inside valid size whole stride);
      },
    )

pub invariant_of-self-lent : goal.invariant_of-self-lent
invariant_of-self-lent g c = λ w. whole_with_part c.self.inside.geometry c.self.inside.buffer c.data_origin.result
    w c.self.invariant
