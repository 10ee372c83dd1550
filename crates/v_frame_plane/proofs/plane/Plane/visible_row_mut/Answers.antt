-- The lent part of the buffer is row y of the table, and its final value replaces it.
use Rattle.std.proofs.Common.{◌<◌, Some, refl, sym, ap, ◌∙◌, arith}
use Rattle.v_frame_raster.specs.Raster.{Raster, raster}
use Rattle.v_frame_plane.proofs.tables.Kept.{whole_with_part}
use Rattle.v_frame_raster.proofs.tables.Places.{shown_slice, row_wide}
use Rattle.v_frame_plane.proofs.tables.RowWrites.{writes_each_row}
use Rattle.v_frame_plane.proofs.plane.Plane.visible_row_mut.Goals as goal

pub returns : goal.returns
returns g c =
    let p : Raster g.row.T.Denot = raster c.self.inside.geometry c.self.inside.buffer in
    let geometry = ap (λ (r : Raster g.row.T.Denot). r.geometry) c.self.view_is in
    let start = c.row_start-start.ensures.place in let lent = c.part_mut.result.now in let whole =
    c.self.invariant.whole in
    let high : c.args.y < p.geometry.height = omega (arith, c.requires, ap (λ k. k.height) geometry) in
    let value = sym (shown_slice p c.args.y c.row_start-start.result c.width.result p.buffer high start
    c.width.ensures.value refl) ∙
    ap Some (sym c.part_mut.ensures.value) in
    rw (← c.self.view_is) (
      (refl, λ w. rw start refl),
      record {
        writes_back = tt;
        value = value;
        written = writes_each_row p whole c.args.y lent high value;
        wide = row_wide p whole c.args.y lent value;
      },
    )

pub part_mut-requires-clause-within : goal.part_mut-requires-clause-within
part_mut-requires-clause-within g c = omega (
  arith,
  c.row_start-start.ensures.within,
  c.width.ensures.value,
  c.self.invariant.whole,
)

pub invariant_of-self-lent : goal.invariant_of-self-lent
invariant_of-self-lent g c = λ w. whole_with_part c.self.inside.geometry c.self.inside.buffer c.row_start-start.result
    w c.self.invariant
