-- The number of pixels of the plane.
use Rattle.std.proofs.Common.{◌≡◌, ◌*◌, length, refl, sym, ◌∙◌, ap, arith}
use Rattle.v_frame.specs.Prelude.{row_major, table_of}
use Rattle.v_frame_semi_planar.specs.SemiPlanar.{shown_pixels}
use Rattle.v_frame_semi_planar.proofs.CombinedLists.{length-row_major}
use Rattle.v_frame_semi_planar.proofs.storing.store_plane.Goals as goal

pub store_luma-requires-clause-long : goal.store_luma-requires-clause-long
store_luma-requires-clause-long g c κs within =
    let count = length-row_major c.width.result (table_of c.args.plane.now) c.width.ensures.rows in
    let high : length (table_of c.args.plane.now) ≡ c.args.plane.now.geometry.height =
    sym c.height.ensures.table ∙ c.height.ensures.value in
    let same : length (row_major (table_of c.args.plane.now)) ≡ c.args.plane.now.geometry.height *
    c.args.plane.now.geometry.width = count ∙ rw (high, c.width.ensures.value) refl in
    c.requires.long ∙ rw same (omega arith)

pub returns-clause-pixels : goal.returns-clause-pixels
returns-clause-pixels g c =
    let count = length-row_major c.width.result (table_of c.args.plane.now) c.width.ensures.rows in
    let high : length (table_of c.args.plane.now) ≡ c.args.plane.now.geometry.height =
    sym c.height.ensures.table ∙ c.height.ensures.value in
    let same : length (row_major (table_of c.args.plane.now)) ≡ c.args.plane.now.geometry.height *
    c.args.plane.now.geometry.width = count ∙ rw (high, c.width.ensures.value) refl in
    c.store_luma.ensures.pixels
    ∙ ap (λ n. shown_pixels g.T.Pixel.form c.args.unused n c.args.bytes.now) (sym same)
