-- The items of an iterator that writes: rows or pixels. A proof is written once for both kinds. Its last clause is
-- checked for each kind, for which these definitions compute.
-- - walk_row, draw_row: the types of the iterator and of a draw.
-- - Walk, Draw, Entry: their values, and the value that a draw changes.
-- - left, shown, rows_of, slice: the remaining items of the iterator, the items of a plane, the rows of the iterator,
--   and its slice.
-- - side_of, made, written: the side of a draw, and its effects.
-- - FinalItems, Ends, Lends, Puts: the final values of the items.
-- - Begins: the initial state of the iterator of a plane.
-- - Promise, Kept: the contract of a function, and the fact that it is met.
use Rattle.v_frame_buffer.proofs.Steps.{◌≡◌, List, length, Option, MutBor, NamedLft, RattleType, Fml, Clauses, Logic}
use Rattle.v_frame_buffer.proofs.Steps.{Ura, param, Running, Ended, closing, Meets, Callee, Model, All}
use Rattle.v_frame_plane.specs.FinalPixels.{LendsFirstPixel, LendsLastPixel, PixelEndsAs, FinalPixels}
use Rattle.v_frame_plane.specs.FinalRows.{EndsAs, LendsFirstRow, LendsLastRow, FinalRows, WritesEachTable}
use Rattle.v_frame_plane.specs.LendsTable.{LendsRows, LendsTable, LendsPixelTable}
use Rattle.v_frame_plane.specs.Dropped.{RowsAreHeld, DroppedPixelsKeepTheirValues}
use Rattle.v_frame.specs.Walk.{pixel_written, pixels_written, row_written, rows_written}
use Rattle.v_frame_raster.specs.{Table.Table, Table.row_major}
use Rattle.v_frame_plane.specs.{PixelsLeft.pixels_left, RowsLeft.rows_left}
use Rattle.v_frame_raster.specs.Raster.{Raster, table_of}
use Rattle.v_frame_plane.specs.{declared.pixels_mut.PixelsMut.PixelsMut, declared.rows_mut.RowsMut.RowsMut}
use Rattle.v_frame.specs.{DrawnItems.PutsBack, declared.replay.draw.PixelDraw.PixelDraw}
use Rattle.v_frame.specs.{declared.replay.draw.RowDraw.RowDraw, declared.replay.draw.Side.Side}
use Rattle.v_frame.specs.{declared.replay.draw.Side.TheVariants.Front, declared.replay.draw.Side.TheVariants.Back}
use Rattle.v_frame_plane.specs.contracts.pixels_mut.PixelsMut as pixels_mut
use Rattle.v_frame_plane.specs.contracts.rows_mut.RowsMut as rows_mut
use Rattle.v_frame.specs.contracts.replay.draw.PixelDraw as pixel_draw
use Rattle.v_frame.specs.contracts.replay.draw.RowDraw as row_draw

-- `neither` has a separate first clause, so that the last clause is split by kind.
pub data Kind : Type 0 where
  neither of_rows of_pixels : Kind

abbrev pub walk_row : Kind → NamedLft → RattleType → RattleType
walk_row of_pixels = pixels_mut.the_row
walk_row _ = rows_mut.the_row

abbrev pub draw_row : Kind → RattleType → RattleType
draw_row of_pixels = pixel_draw.the_row
draw_row _ = row_draw.the_row

module _ (T : RattleType) where
  abbrev pub Walk : Kind → Type 0
  Walk of_pixels = PixelsMut T.Denot
  Walk _ = RowsMut T.Denot

  abbrev pub Draw : Kind → Type 0
  Draw of_pixels = PixelDraw T.Denot
  Draw _ = RowDraw T.Denot

  abbrev pub Entry : Kind → Type 0
  Entry of_pixels = T.Denot
  Entry _ = List T.Denot

  abbrev pub left : (k : Kind) → Walk k → List (Entry k)
  left of_pixels = pixels_left
  left _ = rows_left

  abbrev pub shown : (k : Kind) → Raster T.Denot → List (Entry k)
  shown of_pixels plane = row_major (table_of plane)
  shown _ plane = table_of plane

  abbrev pub side_of : (k : Kind) → Draw k → Side
  side_of of_pixels draw = draw.side
  side_of _ draw = draw.side

  abbrev pub made : (k : Kind) → Draw k → Entry k → Entry k
  made of_pixels = pixel_written
  made _ = row_written

  abbrev pub written : (k : Kind) → Table T.Denot → List (Draw k) → Table T.Denot
  written of_pixels = pixels_written
  written _ = rows_written

  abbrev pub FinalItems : (k : Kind) → Walk k → List (Entry k) → Fml
  FinalItems of_pixels = FinalPixels (param 0 T)
  FinalItems _ = FinalRows (param 0 T)

  abbrev pub Ends : (k : Kind) → MutBor (Entry k) → Entry k → Fml
  Ends of_pixels x = PixelEndsAs (param 0 T) x.ghost_name
  Ends _ x = EndsAs (param 0 T) x.ghost_name

  -- The effect of a call from a side.
  abbrev pub Lends : (k : Kind) → Side → Walk k → Option (MutBor (Entry k)) → Walk k → Fml
  Lends of_pixels Front = LendsFirstPixel (param 0 T)
  Lends of_pixels Back = LendsLastPixel (param 0 T)
  Lends _ Front = LendsFirstRow (param 0 T)
  Lends _ Back = LendsLastRow (param 0 T)

  abbrev pub Puts : (k : Kind) → List (Draw k) → Walk k → Walk k → Fml
  Puts k = PutsBack (left k) (FinalItems k) (side_of k) (made k)

  -- The clauses about the plane, and its final state, which follows from the final values of the items.
  abbrev pub LendsBack : (k : Kind) → MutBor (Raster T.Denot) → Walk k → Fml
  LendsBack of_pixels = LendsPixelTable (param 0 T)
  LendsBack _ = LendsRows (param 0 T)

  abbrev pub EndsBy : (k : Kind) → MutBor (Raster T.Denot) → Walk k → Fml
  EndsBy of_pixels = LendsPixelTable (param 0 T)
  EndsBy _ = LendsTable (param 0 T)

  -- The law of the meaning of an iterator.
  abbrev pub Law : Kind → Fml
  Law of_pixels = DroppedPixelsKeepTheirValues (param 0 T)
  Law _ = RowsAreHeld (param 0 T)

  abbrev Tells : (k : Kind) → Raster T.Denot → Walk k → Type 0
  Tells of_pixels plane walk = Unit {0}
  Tells _ plane walk = WritesEachTable plane walk × All (λ row. length row ≡ plane.geometry.width) (rows_left walk)

  pub record Begins (k : Kind) (plane : Raster T.Denot) (walk : Walk k) : Type 0 where
    pub all : left k walk ≡ shown k plane
    pub tells : Tells k plane walk

abbrev pub Promise : {M : Type 1} → Ura M → Type 2
Promise 𝓤 = (ended : Ended) × Clauses 𝓤 ended

abbrev pub Kept : {M : Type 1} {𝓤 : Ura M} (𝓛 : Logic 𝓤) (𝓜 : Model 𝓤 𝓛.H) → Running 𝓤 𝓛.H 𝓜 → Promise 𝓤 → Callee →
    Type 1
Kept 𝓛 𝓜 𝓡 p f = Meets 𝓛 p.0.signature (𝓡.run (𝓡.env f)) (closing 𝓛 p.0 p.1)
