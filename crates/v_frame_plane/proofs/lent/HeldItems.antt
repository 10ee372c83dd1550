-- Items that a caller holds: the clauses of the calls that drew them, combined. Assumes `Logic`.
use Rattle.v_frame_buffer.proofs.Steps.{◌≡◌, ◌+◌, List, [], ◌∷◌, ◌++◌, length, map, Option, Some, None, MutBor, refl, sym, ap, ◌∙◌, arith, ent, RattleType, Ura, ‵}
use Rattle.v_frame_buffer.proofs.Steps.{◌$◌, ◌∵◌, !, qed, assume, done, drop, each, fsplit, move, use1, use2, fjoin, fsep, Fml, Logic, sem, apply∗, emp}
use Rattle.std.proofs.Common.{length-append}
use Rattle.std.specs.Borrow.{GName}
use base.Fml.{fall, fex, fwand}
use Rattle.v_frame_raster.specs.Raster.{Raster, table_of}
use Rattle.v_frame_raster.specs.Table.{cut_rows, width_of, height_of, row_major}
use Rattle.v_frame_plane.specs.RowsLeft.{rows_left}
use Rattle.v_frame_plane.specs.PixelsLeft.{pixels_left}
use Rattle.v_frame_plane.specs.FinalRows.{EndsAs, FinalRows, WritesEachTable}
use Rattle.v_frame_plane.specs.FinalPixels.{PixelEndsAs, FinalPixels}
use Rattle.v_frame_plane.specs.LendsTable.{EndsWith, LendsPixelTable, LendsRows, LendsTable}
use Rattle.v_frame_plane.specs.HeldItems.{End, at_front, at_back, HeldDraw, walk_after, put_at, final_items, YieldsAt, AreDraws}
use Rattle.v_frame_plane.specs.HeldItems.{AllLeave, EndsIf, AllEnd, LeavesRow, LeavesPixel, HeldRows, HeldPixels}
use Rattle.v_frame_plane.specs.HeldItems.{HeldRowsMakeTheTable, HeldPixelsMakeTheTable}
use Rattle.v_frame_plane.specs.declared.rows_mut.RowsMut.{RowsMut}
use Rattle.v_frame_plane.specs.declared.pixels_mut.PixelsMut.{PixelsMut}
use Rattle.v_frame_plane.proofs.lent.EndsTable.{lends_table}

-- The number of final values is the number of items before the calls.
module _ {Walk Item : Type 0} (left : Walk → List Item) where
  one_more : (end : End) (old new : Walk) (item : Option (MutBor Item)) (final : Item) (others : List Item) →
      YieldsAt left end old item new → length others ≡ length (left new) →
      length (put_at end item final others) ≡ length (left old)
  one_more at_front old new None final others yields same = same ∙ ap length (yields.1 ∙ sym yields.0)
  one_more at_back old new None final others yields same = same ∙ ap length (yields.1 ∙ sym yields.0)
  one_more at_front old new (Some item) final others yields same = omega (arith, same, ap length yields)
  one_more at_back old new (Some item) final others yields same = omega (
    arith,
    same,
    ap length yields,
    length-append others (final ∷ []),
    length-append (left new) (item.now ∷ []),
  )

  as_many : (walk : Walk) (draws : List (HeldDraw Walk Item)) (others : List Item) → AreDraws left walk draws →
      length others ≡ length (left (walk_after walk draws)) → length (final_items draws others) ≡ length (left walk)
  as_many walk [] others are same = same
  as_many walk (draw ∷ draws) others are same = one_more draw.end walk draw.after draw.item draw.final
      (final_items draws others) are.0 (as_many draw.after draws others are.1 same)

-- The final values of the remaining items and of the drawn items make up the final values before the calls.
module _ {M : Type 1} {𝓤 : Ura M} (𝓛 : Logic 𝓤) {Walk Item : Type 0} (left : Walk → List Item)
    (Leaves : End → Walk → Option (MutBor Item) → Walk → Fml) (Ends : GName → Item → Fml)
    (Final : Walk → List Item → Fml)
    (one_back : (end : End) (old new : Walk) (item : Option (MutBor Item)) (final : Item) (others : List Item) →
    length others ≡ length (left new) →
    ent 𝓤 (sem 𝓛 (fsep (Final new others) (fsep (EndsIf Ends item final) (Leaves end old item new))))
    (sem 𝓛 (Final old (put_at end item final others)))) where
  Held : Walk → List (HeldDraw Walk Item) → List Item → Fml
  Held walk draws others =
      fsep (AllLeave Leaves walk draws) (fsep (AllEnd Ends draws) (Final (walk_after walk draws) others))

  pub all_back : (walk : Walk) (draws : List (HeldDraw Walk Item)) (others : List Item) → AreDraws left walk draws →
      length others ≡ length (left (walk_after walk draws)) →
      ent 𝓤 (sem 𝓛 (fsep (AllLeave Leaves walk draws) (fsep (AllEnd Ends draws) (Final (walk_after walk draws) others))))
      (sem 𝓛 (Final walk (final_items draws others)))
  all_back walk [] others are same =
      qed 𝓛 (‵ (fsep (AllLeave Leaves walk []) (fsep (AllEnd {Walk = Walk} Ends []) (Final walk others))) ∷ []) ∵
      fsplit ! $ drop ! $ fsplit ! $ drop ! $ done !
  all_back walk (draw ∷ draws) others are same =
      let last = walk_after draw.after draws in
      let Later : Fml = fsep (AllLeave Leaves draw.after draws) (fsep (AllEnd Ends draws) (Final last others)) in
      let finals = final_items draws others in
      let Now : Fml = fsep (Final draw.after finals)
      (fsep (EndsIf Ends draw.item draw.final) (Leaves draw.end walk draw.item draw.after)) in
      qed 𝓛 (‵ (fsep (AllLeave Leaves walk (draw ∷ draws)) (fsep (AllEnd Ends (draw ∷ draws)) (Final last others))) ∷ []) ∵
      fsplit ! $ fsplit ! $ move ! (2 ∷ []) $ fsplit ! $ fsplit ! $
      -- [final value of the first item; of the others; the last iterator; clause of the first call; clauses of the others]
      move ! (1 ∷ 2 ∷ []) $ fjoin ! $ move ! (3 ∷ 0 ∷ []) $ fjoin ! $
      use1 𝓛 (‵ (Final draw.after finals)) (all_back draw.after draws others are.1 same) $
      move ! (1 ∷ 2 ∷ []) $ fjoin ! $ move ! (1 ∷ 0 ∷ []) $ fjoin ! $
      use1 𝓛 (‵ (Final walk (final_items (draw ∷ draws) others)))
      (one_back draw.end walk draw.after draw.item draw.final finals (as_many left draw.after draws others are.1 same)) $ done !

module _ {M : Type 1} {𝓤 : Ura M} (𝓛 : Logic 𝓤) (T : RattleType) where
  -- The clause of one call, for any final values.
  no_row : (end : End) (old new : RowsMut T.Denot) (others : List (List T.Denot)) →
      ent 𝓤 (sem 𝓛 (LeavesRow T end old None new)) (sem 𝓛 (fwand (FinalRows T new others) (FinalRows T old others)))
  no_row at_front old new others = record { apply = λ a says. says others }
  no_row at_back old new others = record { apply = λ a says. says others }

  one_row : (end : End) (old new : RowsMut T.Denot) (row : MutBor (List T.Denot)) (final : List T.Denot)
      (others : List (List T.Denot)) → length others ≡ length (rows_left new) →
      ent 𝓤 (sem 𝓛 (LeavesRow T end old (Some row) new))
      (sem 𝓛 (fwand (fsep (EndsAs T row.ghost_name final) (FinalRows T new others))
      (FinalRows T old (put_at end (Some row) final others))))
  one_row at_front old new row final others same = record { apply = λ a says. says (final, others) }
  one_row at_back old new row final others same = record { apply = λ a says. says (final, others) same }

  no_pixel : (end : End) (old new : PixelsMut T.Denot) (others : List T.Denot) →
      ent 𝓤 (sem 𝓛 (LeavesPixel T end old None new))
      (sem 𝓛 (fwand (FinalPixels T new others) (FinalPixels T old others)))
  no_pixel at_front old new others = record { apply = λ a says. says others }
  no_pixel at_back old new others = record { apply = λ a says. says others }

  one_pixel : (end : End) (old new : PixelsMut T.Denot) (pixel : MutBor T.Denot) (final : T.Denot) (others : List T.Denot) →
      ent 𝓤 (sem 𝓛 (LeavesPixel T end old (Some pixel) new))
      (sem 𝓛 (fwand (fsep (PixelEndsAs T pixel.ghost_name final) (FinalPixels T new others))
      (FinalPixels T old (put_at end (Some pixel) final others))))
  one_pixel at_front old new pixel final others = record { apply = λ a says. says (final, others) }
  one_pixel at_back old new pixel final others = record { apply = λ a says. says (final, others) }

  -- The final value of the item of one call is added to those of the remaining items.
  module _ (New Old Ending Leaves : Fml) where
    none_back : ent 𝓤 (sem 𝓛 Leaves) (sem 𝓛 (fwand New Old)) → ent 𝓤 (sem 𝓛 (fsep New (fsep Ending Leaves))) (sem 𝓛 Old)
    none_back says = qed 𝓛 (‵ (fsep New (fsep Ending Leaves)) ∷ []) ∵
        fsplit ! $ move ! (1 ∷ []) $ fsplit ! $ drop ! $ use1 𝓛 (‵ (fwand New Old)) says $ move ! (1 ∷ []) $
        use2 𝓛 (‵ Old) (apply∗ 𝓤 (sem 𝓛 New) (sem 𝓛 Old)) $ done !

    some_back : ent 𝓤 (sem 𝓛 Leaves) (sem 𝓛 (fwand (fsep Ending New) Old)) →
        ent 𝓤 (sem 𝓛 (fsep New (fsep Ending Leaves))) (sem 𝓛 Old)
    some_back says = qed 𝓛 (‵ (fsep New (fsep Ending Leaves)) ∷ []) ∵
        fsplit ! $ move ! (1 ∷ []) $ fsplit ! $ move ! (1 ∷ []) $ use1 𝓛 (‵ (fwand (fsep Ending New) Old)) says $
        move ! (1 ∷ 2 ∷ []) $ fjoin ! $ move ! (0 ∷ 1 ∷ []) $
        use2 𝓛 (‵ Old) (apply∗ 𝓤 (sem 𝓛 (fsep Ending New)) (sem 𝓛 Old)) $ done !

  row_back : (end : End) (old new : RowsMut T.Denot) (item : Option (MutBor (List T.Denot))) (final : List T.Denot)
      (others : List (List T.Denot)) → length others ≡ length (rows_left new) →
      ent 𝓤 (sem 𝓛 (fsep (FinalRows T new others)
      (fsep (EndsIf (EndsAs T) item final) (LeavesRow T end old item new))))
      (sem 𝓛 (FinalRows T old (put_at end item final others)))
  row_back end old new None final others same = none_back (FinalRows T new others) (FinalRows T old others)
      (EndsIf (EndsAs T) None final) (LeavesRow T end old None new) (no_row end old new others)
  row_back end old new (Some row) final others same = some_back (FinalRows T new others)
      (FinalRows T old (put_at end (Some row) final others)) (EndsAs T row.ghost_name final)
      (LeavesRow T end old (Some row) new) (one_row end old new row final others same)

  pixel_back : (end : End) (old new : PixelsMut T.Denot) (item : Option (MutBor T.Denot)) (final : T.Denot)
      (others : List T.Denot) → length others ≡ length (pixels_left new) →
      ent 𝓤 (sem 𝓛 (fsep (FinalPixels T new others)
      (fsep (EndsIf (PixelEndsAs T) item final) (LeavesPixel T end old item new))))
      (sem 𝓛 (FinalPixels T old (put_at end item final others)))
  pixel_back end old new None final others same = none_back (FinalPixels T new others) (FinalPixels T old others)
      (EndsIf (PixelEndsAs T) None final) (LeavesPixel T end old None new) (no_pixel end old new others)
  pixel_back end old new (Some pixel) final others same = some_back (FinalPixels T new others)
      (FinalPixels T old (put_at end (Some pixel) final others)) (PixelEndsAs T pixel.ghost_name final)
      (LeavesPixel T end old (Some pixel) new) (one_pixel end old new pixel final others)

  pub held_rows : ent 𝓤 (emp 𝓤) (sem 𝓛 (HeldRowsMakeTheTable T))
  held_rows = qed 𝓛 [] ∵ each ! _ (λ plane. each ! _ (λ walk. each ! _ (λ draws. each ! _ (λ others. each ! _
      (λ written. each ! _ (λ are. each ! _ (λ same. each ! _ (λ wide.
      let finals = final_items draws others in
      let last = walk_after walk draws in
      assume ! (‵ (HeldRows T plane walk draws others)) $ fsplit ! $ move ! (1 ∷ 0 ∷ []) $
      use1 𝓛 (‵ (FinalRows T walk finals))
      (all_back 𝓛 rows_left (LeavesRow T) (EndsAs T) (FinalRows T) row_back walk draws others are same) $
      move ! (1 ∷ 0 ∷ []) $ use1 𝓛 (‵ (LendsTable T plane walk)) (lends_table 𝓛 T plane walk written) $
      use1 𝓛 (‵ (fwand (FinalRows T walk finals) (EndsWith T plane finals)))
      (record { apply = λ a says. says finals wide }) $ move ! (1 ∷ 0 ∷ []) $
      use2 𝓛 (‵ (EndsWith T plane finals))
      (apply∗ 𝓤 (sem 𝓛 (FinalRows T walk finals)) (sem 𝓛 (EndsWith T plane finals))) $ done !))))))))

  pub held_pixels : ent 𝓤 (emp 𝓤) (sem 𝓛 (HeldPixelsMakeTheTable T))
  held_pixels = qed 𝓛 [] ∵ each ! _ (λ plane. each ! _ (λ walk. each ! _ (λ draws. each ! _ (λ others. each ! _
      (λ are. each ! _ (λ same.
      let finals = final_items draws others in
      let table = table_of plane.now in
      let rows = cut_rows (width_of table) (height_of table) finals in
      let Shown : Fml = fex (row_major rows ≡ finals) (λ _. EndsWith T plane rows) in
      assume ! (‵ (HeldPixels T plane walk draws others)) $ fsplit ! $ move ! (1 ∷ 0 ∷ []) $
      use1 𝓛 (‵ (FinalPixels T walk finals))
      (all_back 𝓛 pixels_left (LeavesPixel T) (PixelEndsAs T) (FinalPixels T) pixel_back walk draws others are same) $
      move ! (1 ∷ 0 ∷ []) $
      use1 𝓛 (‵ (fwand (FinalPixels T walk finals) Shown)) (record { apply = λ a says. says finals }) $
      move ! (1 ∷ 0 ∷ []) $
      use2 𝓛 (‵ Shown) (apply∗ 𝓤 (sem 𝓛 (FinalPixels T walk finals)) (sem 𝓛 Shown)) $ done !))))))
