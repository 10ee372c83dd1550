-- The final state of a plane whose items were lent by an iterator, computed from the final values of its rows or of
-- its pixels. Assumes `Logic`.
use Rattle.v_frame_buffer.proofs.Steps.{◌≡◌, List, [], ◌∷◌, length, map, MutBor, refl, sym, ap, ◌∙◌, ent, all, wand, RattleType, Ura, ‵}
use Rattle.v_frame_buffer.proofs.Steps.{◌$◌, ◌∵◌, !, qed, assume, done, drop, each, fpack, fpick, fsplit, move, rewrite}
use Rattle.v_frame_buffer.proofs.Steps.{use1, use2, fjoin, fsep, Fml, Logic, sem, fex, fres, Array, All, append-nil, nil_from_length}
use denote.Follow.{followed}
use Rattle.v_frame_raster.specs.Raster.{Raster, table_of, with_entries}
use Rattle.v_frame_raster.specs.Table.{cut_rows, width_of, height_of, row_major}
use Rattle.v_frame_raster.specs.Writes.{WritesTable}
use Rattle.v_frame_raster.proofs.tables.CutRows.{cut_again}
use Rattle.v_frame_plane.specs.RowsLeft.{rows_left}
use Rattle.v_frame_plane.specs.FinalRows.{FinalRows, WritesEachTable, entries_with}
use Rattle.v_frame_plane.specs.FinalPixels.{ArePartsOf, BeginsOver, FinalPixels, Parts}
use Rattle.v_frame_plane.specs.Lends.{LendsBuffer}
use Rattle.v_frame_plane.specs.LendsTable.{EndsWith, LendsPixelTable, LendsTable}
use Rattle.v_frame_plane.specs.contracts.plane.Plane.{the_row}
use Rattle.v_frame_plane.specs.declared.rows_mut.RowsMut.{RowsMut}
use Rattle.v_frame_plane.specs.declared.pixels_mut.PixelsMut.{PixelsMut}
use Rattle.v_frame_plane.proofs.iterators.Cursors.{rows_are_long}

module _ {M : Type 1} {𝓤 : Ura M} (𝓛 : Logic 𝓤) (T : RattleType) (plane : MutBor (Raster T.Denot)) where
  abbrev Shows : List (List T.Denot) → Raster T.Denot → Fml
  Shows table new = fex (WritesTable plane.now new table) (λ _. fres plane.ghost_name ((the_row T).coded.code new))

  ends_with : (walk : RowsMut T.Denot) → WritesEachTable plane.now walk → (second : List (List T.Denot)) →
      map length second ≡ map length (table_of plane.now) →
      ent 𝓤 (sem 𝓛 (fsep (LendsBuffer T plane walk.rest) (FinalRows T walk second))) (sem 𝓛 (EndsWith T plane second))
  unfolding FinalRows WritesEachTable
  ends_with walk written second same = let new = with_entries plane.now (entries_with walk second) in
      let Last : Fml = fres plane.ghost_name ((the_row T).coded.code new) in
      qed 𝓛 (‵ (fsep (LendsBuffer T plane walk.rest) (FinalRows T walk second)) ∷ []) ∵ fsplit ! $ use2 𝓛 (‵ Last)
      (followed 𝓛 (the_row T) (Array T 0) (with_entries plane.now) plane.ghost_name walk.rest.ghost_name
      (entries_with walk second)) $
      fpack ! (WritesTable plane.now new second) (λ _. Last) (written second same) $
      fpack ! (Raster T.Denot) (Shows second) new $ done !

  pub lends_table : (walk : RowsMut T.Denot) → WritesEachTable plane.now walk →
      ent 𝓤 (sem 𝓛 (LendsBuffer T plane walk.rest)) (sem 𝓛 (LendsTable T plane walk))
  lends_table walk written = qed 𝓛 (‵ (LendsBuffer T plane walk.rest) ∷ []) ∵ each ! _ (λ second. each ! _ (λ same.
      assume ! (‵ (FinalRows T walk second)) $ move ! (1 ∷ 0 ∷ []) $ fjoin ! $
      use1 𝓛 (‵ (EndsWith T plane second)) (ends_with walk written second same) $ done !))

  abbrev cut : List T.Denot → List (List T.Denot)
  cut = let table = table_of plane.now in cut_rows (width_of table) (height_of table)

  -- The rows of the parts are the pixels, cut into rows again.
  rows_of_parts : (walk : PixelsMut T.Denot) → BeginsOver plane.now walk → (second : List T.Denot) (parts : Parts T.Denot)
      → ArePartsOf walk second parts →
      (parts.rows ≡ cut second) × (map length parts.rows ≡ map length (table_of plane.now)) × (row_major parts.rows ≡ second)
  unfolding rows_left
  rows_of_parts walk begins second parts are =
      let rows = walk.rows in let table = table_of plane.now in
      let wide : All (λ row. length row ≡ rows.width) table =
      rw (sym begins.rows) (rows_are_long rows.start rows.width rows.gap rows.count rows.rest.now rows.within.within) in
      let long : map length parts.rows ≡ map length table = are.rows ∙ ap (map length) begins.rows in
      let no_front : parts.front ≡ [] = nil_from_length parts.front (are.front ∙ ap length begins.front) in
      let no_back : parts.back ≡ [] = nil_from_length parts.back (are.back ∙ ap length begins.back) in
      let joined : second ≡ row_major parts.rows = rw (are.joined, no_front, no_back) (append-nil (row_major parts.rows)) in
      (sym (ap (cut_rows (width_of table) (height_of table)) joined ∙ cut_again rows.width table parts.rows long wide), long, sym joined)

  pub lends_pixel_table : (walk : PixelsMut T.Denot) → BeginsOver plane.now walk →
      ent 𝓤 (sem 𝓛 (LendsBuffer T plane walk.rows.rest)) (sem 𝓛 (LendsPixelTable T plane walk))
  unfolding FinalPixels
  lends_pixel_table walk begins =
      qed 𝓛 (‵ (LendsBuffer T plane walk.rows.rest) ∷ []) ∵ each ! _ (λ second.
      assume ! (‵ (FinalPixels T walk second)) $ fpick ! (λ parts. fpick ! (λ are.
      let is = rows_of_parts walk begins second parts are in
      fsplit ! $ drop ! $ fsplit ! $ move ! (2 ∷ 0 ∷ []) $ fjoin ! $
      use1 𝓛 (‵ (EndsWith T plane parts.rows)) (ends_with walk.rows begins.written parts.rows is.1) $
      rewrite ! 0 (λ (r : List (List T.Denot)). ‵ (EndsWith T plane r)) is.0 refl $ move ! (1 ∷ []) $ drop ! $
      fpack ! (row_major (cut second) ≡ second) (λ _. EndsWith T plane (cut second)) (ap row_major (sym is.0) ∙ is.2) $
      done !)))
