-- The final state of a plane whose rows or pixels were lent by an iterator: its table consists of
-- the final values of the items with which the iterator began.
use Rattle.std.specs.Prelude.{◌≡◌, List, length, map}
use Rattle.std.specs.Borrow.{Fml, RattleType, MutBor}
use base.Fml.{fwand, fall, fex, fres}
use Rattle.v_frame_raster.specs.Raster.{Raster, table_of}
use Rattle.v_frame_raster.specs.Table.{cut_rows, width_of, height_of, row_major}
use Rattle.v_frame_raster.specs.Writes.{WritesTable}
use Rattle.v_frame_plane.specs.FinalRows.{FinalRows, WritesEachTable}
use Rattle.v_frame_plane.specs.Lends.{LendsBuffer}
use Rattle.v_frame_plane.specs.RowsLeft.{rows_slice}
use Rattle.v_frame_plane.specs.FinalPixels.{FinalPixels}
use Rattle.v_frame_plane.specs.contracts.plane.Plane.{the_row}
use Rattle.v_frame_plane.specs.declared.rows_mut.RowsMut.{RowsMut}
use Rattle.v_frame_plane.specs.declared.pixels_mut.PixelsMut.{PixelsMut}

module _ (T : RattleType) (plane : MutBor (Raster T.Denot)) where
  -- When the borrow ends, the plane shows this table, and everything else in it is unchanged.
  abbrev pub EndsWith : List (List T.Denot) → Fml
  EndsWith table =
      fex (Raster T.Denot) (λ new.
      fex (WritesTable plane.now new table) (λ _. fres plane.ghost_name ((the_row T).coded.code new)))

  -- The rows of the iterator are parts of the plane's buffer.
  abbrev pub LendsRows : RowsMut T.Denot → Fml
  LendsRows walk = LendsBuffer T plane (rows_slice walk)

  -- When the borrow ends, the table of the plane consists of the final values of the iterator's
  -- rows.
  abbrev pub LendsTable : RowsMut T.Denot → Fml
  LendsTable walk =
      fall (List (List T.Denot)) (λ second.
      fall (map length second ≡ map length (table_of plane.now)) (λ _.
      fwand (FinalRows T walk second) (EndsWith second)))

  -- When the borrow ends, the visible pixels of the plane are the final values of the iterator's
  -- pixels.
  abbrev pub LendsPixelTable : PixelsMut T.Denot → Fml
  LendsPixelTable walk =
      fall (List T.Denot) (λ second.
      let table = table_of plane.now in
      let rows = cut_rows (width_of table) (height_of table) second in
      fwand (FinalPixels T walk second) (fex (row_major rows ≡ second) (λ _. EndsWith rows)))

-- The final values of the rows that `rows_mut` lends are the table of the plane.
abbrev pub HeldRowsAreTheTable : RattleType → Fml
HeldRowsAreTheTable T =
    fall (MutBor (Raster T.Denot)) (λ plane.
    fall (RowsMut T.Denot) (λ walk.
    fall (WritesEachTable plane.now walk) (λ _.
    fwand (LendsRows T plane walk) (LendsTable T plane walk))))
