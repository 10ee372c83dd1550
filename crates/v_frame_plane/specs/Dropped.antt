-- Iterators that lend rows or pixels for writing may be dropped early. The remaining items then
-- keep their current values.
use Rattle.std.specs.Prelude.{List}
use Rattle.std.specs.Borrow.{Fml, RattleType}
use base.Fml.{fall, fsep, fwand}
use Rattle.v_frame_plane.specs.LendsTable.{HeldRowsAreTheTable}
use denote.Ref.{NamedLft}
use mir.Val.{Val}
use Rattle.v_frame_plane.specs.PixelsLeft.{pixels_left}
use Rattle.v_frame_plane.specs.RowsLeft.{rows_left}
use Rattle.v_frame_plane.specs.FinalPixels.{FinalPixels}
use Rattle.v_frame_plane.specs.FinalRows.{FinalRows}
use Rattle.v_frame_plane.specs.contracts.pixels_mut.PixelsMut.{the_row as pixels_row}
use Rattle.v_frame_plane.specs.contracts.rows_mut.RowsMut.{the_row as rows_row}
use Rattle.v_frame_plane.specs.declared.pixels_mut.PixelsMut.{PixelsMut}
use Rattle.v_frame_plane.specs.declared.rows_mut.RowsMut.{RowsMut}

module _ (T : RattleType) where
  -- An iterator of any lifetime may be dropped by its owner. When the borrow ends, its remaining
  -- rows hold their current pixels.
  abbrev pub DroppedRowsKeepTheirPixels : Fml
  DroppedRowsKeepTheirPixels =
      fall NamedLft (λ lifetime.
      fall (RowsMut T.Denot) (λ walk.
      fall (List Val) (λ values.
      fwand ((rows_row lifetime T).own_val walk values) (FinalRows T walk (rows_left walk)))))

  -- An iterator of any lifetime may be dropped by its owner. When the borrow ends, its remaining
  -- pixels hold their current values.
  abbrev pub DroppedPixelsKeepTheirValues : Fml
  DroppedPixelsKeepTheirValues =
      fall NamedLft (λ lifetime.
      fall (PixelsMut T.Denot) (λ walk.
      fall (List Val) (λ values.
      fwand ((pixels_row lifetime T).own_val walk values)
      (FinalPixels T walk (pixels_left walk)))))

  -- The meaning of an iterator that lends rows for writing.
  abbrev pub RowsAreHeld : Fml
  RowsAreHeld = fsep DroppedRowsKeepTheirPixels (HeldRowsAreTheTable T)
