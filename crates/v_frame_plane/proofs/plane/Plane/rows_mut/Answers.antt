-- The slice of the iterator is the whole buffer, and calls from one end lend the remaining rows in order.
use Rattle.std.proofs.Common.{◌≡◌, refl, sym, ◌∙◌}
use Rattle.v_frame_raster.specs.Raster.{Raster, raster, table_of}
use Rattle.v_frame_plane.specs.RowsLeft.{rows_left}
use Rattle.v_frame_plane.specs.FinalRows.{WritesEachTable}
use Rattle.v_frame_plane.proofs.tables.Kept.{whole_refilled}
use Rattle.v_frame_raster.proofs.tables.Places.{rows_are_wide}
use Rattle.v_frame_plane.proofs.iterators.WalkRuns.{lends_in_order, lends_in_reverse}
use Rattle.v_frame_plane.proofs.plane.Plane.rows_mut.Goals as goal

pub returns : goal.returns
returns g c =
    let p : Raster g.row.T.Denot = raster c.self.inside.geometry c.self.inside.buffer in
    let written : WritesEachTable p c.new.result = rw (c.as_mut_slice.ensures.value) at c.new.ensures.written in
    let rows : rows_left c.new.result ≡ table_of p = rw (c.as_mut_slice.ensures.value) at c.new.ensures.rows in
    rw (← c.self.view_is) (
      (sym {b = c.as_mut_slice.result.ghost_name} c.new.ensures.same_reference, λ w. refl),
      record {
        writes_back = tt;
        rows = rows;
        written = written;
        wide = rw rows (rows_are_wide p c.self.invariant.whole);
        countable = c.new.ensures.countable;
        bound = c.new.ensures.bound;
        runs = lends_in_order rows_left;
        runs_back = lends_in_reverse rows_left;
      },
    )

pub new-requires : goal.new-requires
new-requires g c = rw (c.as_mut_slice.ensures.value) c.self.invariant

pub invariant_of-self-lent : goal.invariant_of-self-lent
invariant_of-self-lent g c = λ w. whole_refilled c.self.inside.geometry c.self.inside.buffer w c.self.invariant
