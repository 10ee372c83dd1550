-- The final values of the pixels that an iterator lends for writing.
use Rattle.std.specs.Prelude.{◌≡◌, List, [], ◌∷◌, ◌++◌, length, map, Option}
use Rattle.std.specs.Borrow.{Fml, GName, RattleType, MutBor}
use base.Fml.{fsep, fex, fres}
use Rattle.v_frame_raster.specs.Table.{row_major}
use Rattle.v_frame_raster.specs.Raster.{Raster, table_of}
use Rattle.v_frame_plane.specs.RowsLeft.{rows_left}
use Rattle.v_frame_plane.specs.FinalItems.{Keeps, LendsBy, Takes}
use Rattle.v_frame_plane.specs.FinalRows.{EndsAs, FinalRows, WritesEachTable}
use Rattle.v_frame_plane.specs.declared.pixels_mut.PixelsMut.{PixelsMut}

-- The final values of three parts: the row that was begun from the front, the rows that were not
-- begun, and the row that was begun from the back.
pub record Parts (T : Type 0) : Type 0 where
  pub front : List T
  pub rows : List (List T)
  pub back : List T

module _ {T : Type 0} where
  -- Each part has the length of the rows that hold it, and the parts joined are the list.
  pub record ArePartsOf (walk : PixelsMut T) (second : List T) (parts : Parts T) : Type 0 where
    pub joined : second ≡ parts.front ++ (row_major parts.rows ++ parts.back)
    pub front : length parts.front ≡ length walk.front.now
    pub rows : map length parts.rows ≡ map length (rows_left walk.rows)
    pub back : length parts.back ≡ length walk.back.now

  -- An iterator over a plane that has not yielded any pixel. No row is begun, its rows are the rows
  -- of the plane, and every table of this size can be written through them.
  pub record BeginsOver (plane : Raster T) (walk : PixelsMut T) : Type 0 where
    pub front : walk.front.now ≡ []
    pub rows : rows_left walk.rows ≡ table_of plane
    pub back : walk.back.now ≡ []
    pub written : WritesEachTable plane walk.rows

module _ (T : RattleType) where
  -- When its borrow ends, the pixel with this name has this value.
  abbrev pub PixelEndsAs : GName → T.Denot → Fml
  PixelEndsAs name pixel = fres name (T.coded.code pixel)

  -- When the borrow ends, the remaining pixels of the iterator have these values.
  unfoldable pub FinalPixels : PixelsMut T.Denot → List T.Denot → Fml
  FinalPixels walk second =
      fex (Parts T.Denot) (λ parts.
      fex (ArePartsOf walk second parts) (λ _.
      fsep (EndsAs T walk.front.ghost_name parts.front)
      (fsep (FinalRows T walk.rows parts.rows) (EndsAs T walk.back.ghost_name parts.back))))

  -- The remaining pixels before and after have equal final values.
  abbrev pub KeepsPixels : PixelsMut T.Denot → PixelsMut T.Denot → Fml
  KeepsPixels = Keeps PixelEndsAs FinalPixels

  -- The effect of taking the first pixel.
  abbrev pub TakesFirstPixel : PixelsMut T.Denot → PixelsMut T.Denot → MutBor T.Denot → Fml
  TakesFirstPixel = Takes PixelEndsAs FinalPixels ◌∷◌

  -- The effect of taking the last pixel.
  abbrev pub TakesLastPixel : PixelsMut T.Denot → PixelsMut T.Denot → MutBor T.Denot → Fml
  TakesLastPixel = Takes PixelEndsAs FinalPixels (λ pixel rest. rest ++ pixel ∷ [])

  -- The effect of `next`: the final values of the pixels before are those of the remaining pixels,
  -- with the final value of the yielded pixel in front of them.
  abbrev pub LendsFirstPixel : PixelsMut T.Denot → Option (MutBor T.Denot) → PixelsMut T.Denot → Fml
  LendsFirstPixel = LendsBy KeepsPixels TakesFirstPixel

  -- The effect of `next_back`: the final values of the pixels before are those of the remaining
  -- pixels, with the final value of the yielded pixel after them.
  abbrev pub LendsLastPixel : PixelsMut T.Denot → Option (MutBor T.Denot) → PixelsMut T.Denot → Fml
  LendsLastPixel = LendsBy KeepsPixels TakesLastPixel
