-- One lent part is a row of the table, the other one is everything after it, and the final value of the row replaces
-- it.
use Rattle.std.proofs.Common.{◌≤◌, ◌+◌, length, drop, refl, ◌∙◌, arith, length-drop}
use Rattle.std.proofs.lemmas.List.{take_all}
use Rattle.v_frame_raster.specs.Raster.{Raster, raster}
use Rattle.v_frame_raster.proofs.tables.Writes.{parts_to_the_end}
use Rattle.v_frame_raster.proofs.tables.Places.{row_at, row_wide}
use Rattle.v_frame_plane.proofs.tables.RowWrites.{writes_each_front}
use Rattle.v_frame_plane.proofs.plane.pairs.split_row_mut.Goals as goal

pub returns : goal.returns
returns g c =
    let xs = c.args.buffer.now in let y = c.args.y in let lent = c.two_parts.result in
    let p : Raster g.row.T.Denot = raster c.args.geometry xs in
    let s = c.row_start-place.result in let n = c.width-width.result in let k = c.args.geometry in
    let start = c.row_start-place.ensures.place in let width = c.width-width.ensures.value in let whole =
    c.requires.whole.whole in
    let within : s + n ≤ length xs = omega (arith, c.row_start-place.ensures.within, width, whole) in
    let row = row_at p whole y s n lent.0.now c.requires.high start width c.two_parts.ensures.first in
    let rest = c.two_parts.ensures.second ∙ take_all _ (drop (s + n) xs) (omega (arith, length-drop (s + n) xs)) ∙ rw
    (start, width) refl in (
      ((refl, refl), λ ys zs. parts_to_the_end xs ys zs s n within ∙ rw start refl),
      record {
        writes_back = tt;
        row = row;
        wide = row_wide p whole y lent.0.now row;
        rest = rest;
        written = writes_each_front p whole y lent.0.now lent.1.now c.requires.high row rest;
      },
    )
