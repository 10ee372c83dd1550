-- The rows of a plane are not empty, and it has at most as many pixels as its buffer has entries.
use Rattle.std.proofs.Common.{append-nil, refl}
use Rattle.v_frame_raster.specs.Table.{row_major}
use Rattle.v_frame_raster.specs.Raster.{table_of}
use Rattle.v_frame_plane.proofs.iterators.BegunRows.{visible_countable, visible_pixels, visible_few}
use Rattle.v_frame_plane.proofs.pixels.Pixels.new.Goals as goal

pub invariant_of-result : goal.invariant_of-result
invariant_of-result g c =
    let rows = c.new.ensures in
    rw (c.default.ensures, rows.rows, c.default-2.ensures)
    (visible_countable c.args.plane.now rows.valid.wide rows.plane)

pub returns : goal.returns
returns g c =
    let p = c.args.plane.now in
    let rows = c.new.ensures in
    rw (c.default.ensures, c.default-2.ensures, rows.rows, append-nil (row_major (table_of p))) record {
      pixels = refl;
      count = visible_pixels p rows.plane;
      bound = visible_few p rows.plane;
    }
