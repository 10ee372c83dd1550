-- Rows and pixels that a caller holds. They are drawn from either end in any order, and written in
-- any order, before or after the iterator is dropped. When the borrow ends, the table of the plane
-- consists of the final values of the items, each at its place.
use Rattle.std.specs.Prelude.{◌≡◌, List, [], ◌∷◌, ◌++◌, length, map, Option, Some, None}
use Rattle.std.specs.Iterator.{YieldsFirstMut, YieldsLastMut}
use Rattle.std.specs.Borrow.{Fml, GName, RattleType, MutBor}
use base.Fml.{fall, fex, fsep, ftrue, fwand}
use Rattle.v_frame_raster.specs.Raster.{Raster, table_of}
use Rattle.v_frame_raster.specs.Table.{cut_rows, width_of, height_of, row_major}
use Rattle.v_frame_plane.specs.FinalPixels.{FinalPixels, LendsFirstPixel, LendsLastPixel, PixelEndsAs}
use Rattle.v_frame_plane.specs.FinalRows.{EndsAs, FinalRows, LendsFirstRow, LendsLastRow, WritesEachTable}
use Rattle.v_frame_plane.specs.LendsTable.{EndsWith, LendsPixelTable, LendsRows}
use Rattle.v_frame_plane.specs.PixelsLeft.{pixels_left}
use Rattle.v_frame_plane.specs.RowsLeft.{rows_left}
use Rattle.v_frame_plane.specs.declared.rows_mut.RowsMut.{RowsMut}
use Rattle.v_frame_plane.specs.declared.pixels_mut.PixelsMut.{PixelsMut}

pub data End : Type 0 where
  at_front at_back : End

-- One call of `next` or `next_back`: the end from which it draws, its item if there was one, the
-- iterator after the call, and the final value of the item.
pub record HeldDraw (Walk Item : Type 0) : Type 0 where
  pub end : End
  pub item : Option (MutBor Item)
  pub after : Walk
  pub final : Item

module _ {Item : Type 0} where
  -- The final values of the other items, with the final value of one more item at the end from
  -- which that item was drawn.
  abbrev pub put_at : End → Option (MutBor Item) → Item → List Item → List Item
  put_at end None final others = others
  put_at at_front (Some item) final others = final ∷ others
  put_at at_back (Some item) final others = others ++ final ∷ []

  -- If there is an item, this is its value when the borrow ends.
  abbrev pub EndsIf : (GName → Item → Fml) → Option (MutBor Item) → Item → Fml
  EndsIf Ends None final = ftrue
  EndsIf Ends (Some item) final = Ends item.ghost_name final

module _ {Walk Item : Type 0} where
  -- The iterator after all calls.
  abbrev pub walk_after : Walk → List (HeldDraw Walk Item) → Walk
  walk_after walk [] = walk
  walk_after walk (draw ∷ draws) = walk_after draw.after draws

  -- The final values of all items. `others` are the final values of the items that no call drew.
  abbrev pub final_items : List (HeldDraw Walk Item) → List Item → List Item
  final_items [] others = others
  final_items (draw ∷ draws) others = put_at draw.end draw.item draw.final (final_items draws others)

  -- Each call returned the first or the last remaining item, or none if no item remained.
  module _ (left : Walk → List Item) where
    abbrev pub YieldsAt : End → Walk → Option (MutBor Item) → Walk → Type 0
    YieldsAt at_front = YieldsFirstMut left
    YieldsAt at_back = YieldsLastMut left

    abbrev pub AreDraws : Walk → List (HeldDraw Walk Item) → Type 0
    AreDraws walk [] = Unit {0}
    AreDraws walk (draw ∷ draws) =
        YieldsAt draw.end walk draw.item draw.after × AreDraws draw.after draws

  -- The clauses `leaves` of all calls, and the final values of their items.
  module _ (Leaves : End → Walk → Option (MutBor Item) → Walk → Fml) where
    abbrev pub AllLeave : Walk → List (HeldDraw Walk Item) → Fml
    AllLeave walk [] = ftrue
    AllLeave walk (draw ∷ draws) =
        fsep (Leaves draw.end walk draw.item draw.after) (AllLeave draw.after draws)

  module _ (Ends : GName → Item → Fml) where
    abbrev pub AllEnd : List (HeldDraw Walk Item) → Fml
    AllEnd [] = ftrue
    AllEnd (draw ∷ draws) = fsep (EndsIf Ends draw.item draw.final) (AllEnd draws)

module _ (T : RattleType) where
  abbrev pub LeavesRow : End → RowsMut T.Denot → Option (MutBor (List T.Denot)) → RowsMut T.Denot → Fml
  LeavesRow at_front = LendsFirstRow T
  LeavesRow at_back = LendsLastRow T

  abbrev pub LeavesPixel : End → PixelsMut T.Denot → Option (MutBor T.Denot) → PixelsMut T.Denot → Fml
  LeavesPixel at_front = LendsFirstPixel T
  LeavesPixel at_back = LendsLastPixel T

  -- The premises of the law: `rows_mut` lent the iterator, the calls have their clauses, and these are
  -- the final values of all rows.
  abbrev pub HeldRows : MutBor (Raster T.Denot) → RowsMut T.Denot
      → List (HeldDraw (RowsMut T.Denot) (List T.Denot)) → List (List T.Denot) → Fml
  HeldRows plane walk draws others =
      fsep (LendsRows T plane walk)
      (fsep (AllLeave LeavesRow walk draws)
      (fsep (AllEnd (EndsAs T) draws) (FinalRows T (walk_after walk draws) others)))

  -- The final values of the rows are the table of the plane, and the rest of the plane is unchanged.
  abbrev pub HeldRowsMakeTheTable : Fml
  HeldRowsMakeTheTable =
      fall (MutBor (Raster T.Denot)) (λ plane.
      fall (RowsMut T.Denot) (λ walk.
      fall (List (HeldDraw (RowsMut T.Denot) (List T.Denot))) (λ draws.
      fall (List (List T.Denot)) (λ others.
      fall (WritesEachTable plane.now walk) (λ _.
      fall (AreDraws rows_left walk draws) (λ _.
      fall (length others ≡ length (rows_left (walk_after walk draws))) (λ _.
      fall (map length (final_items draws others) ≡ map length (table_of plane.now)) (λ _.
      fwand (HeldRows plane walk draws others) (EndsWith T plane (final_items draws others))))))))))

  -- The premises of the law for pixels.
  abbrev pub HeldPixels : MutBor (Raster T.Denot) → PixelsMut T.Denot
      → List (HeldDraw (PixelsMut T.Denot) T.Denot) → List T.Denot → Fml
  HeldPixels plane walk draws others =
      fsep (LendsPixelTable T plane walk)
      (fsep (AllLeave LeavesPixel walk draws)
      (fsep (AllEnd (PixelEndsAs T) draws) (FinalPixels T (walk_after walk draws) others)))

  abbrev pub HeldPixelsMakeTheTable : Fml
  HeldPixelsMakeTheTable =
      fall (MutBor (Raster T.Denot)) (λ plane.
      fall (PixelsMut T.Denot) (λ walk.
      fall (List (HeldDraw (PixelsMut T.Denot) T.Denot)) (λ draws.
      fall (List T.Denot) (λ others.
      fall (AreDraws pixels_left walk draws) (λ _.
      fall (length others ≡ length (pixels_left (walk_after walk draws))) (λ _.
      let pixels = final_items draws others in
      let table = table_of plane.now in
      let rows = cut_rows (width_of table) (height_of table) pixels in
      fwand (HeldPixels plane walk draws others)
      (fex (row_major rows ≡ pixels) (λ _. EndsWith T plane rows))))))))

  abbrev pub HeldItemsMakeTheTable : Fml
  HeldItemsMakeTheTable = fsep HeldRowsMakeTheTable HeldPixelsMakeTheTable
