-- The state of an iterator over lent pixels after a row was begun. Its pixels have the same final values as those
-- that remained before. Assumes `Logic`.
-- - begun: a row was taken, and is now the begun row at this end.
-- - taken: no row remained, and the begun row of the other end was taken.
-- - keeps_by: each of these steps keeps the pixels. An end among the parts of the new iterator corresponds to an end
--   of the old one.
use Rattle.v_frame_buffer.proofs.Steps.{◌≡◌, List, Option, None, [], ◌∷◌, ◌++◌, length, Some, MutBor, refl, sym, ap}
use Rattle.v_frame_buffer.proofs.Steps.{◌∙◌, arith, SProp, all, all_e, apply∗, ent, sep, wand, RattleType, Ura, ‵, raw}
use Rattle.v_frame_buffer.proofs.Steps.{◌$◌, ◌∵◌, !, qed, assume, done, each, fjoin3, fpick, fsplit, fsplit3, join}
use Rattle.v_frame_buffer.proofs.Steps.{keep, move, rewrite, use1, use2, use3, Logic, sem, append_assoc, Fml, fsep, map}
use Rattle.v_frame_buffer.proofs.Steps.{append-nil, nil_from_length, map-append}
use Rattle.v_frame_raster.specs.Table.{row_major}
use Rattle.v_frame_plane.specs.PixelsLeft.{pixels_left}
use Rattle.v_frame_plane.specs.RowsLeft.{rows_left}
use Rattle.v_frame_plane.specs.FinalPixels.{Parts, ArePartsOf, FinalPixels, KeepsPixels}
use Rattle.v_frame_plane.specs.FinalRows.{EndsAs, FinalRows, KeepsRows, TakesFirstRow, TakesLastRow}
use Rattle.v_frame_plane.specs.declared.pixels_mut.PixelsMut.{PixelsMut}
use Rattle.v_frame_plane.specs.declared.rows_mut.RowsMut.{RowsMut}
use Rattle.v_frame_buffer.proofs.Loans.{at_one}
use Rattle.v_frame_plane.proofs.lent.PixelParts.{PartsEnd, of_parts, parts_of}
use Rattle.v_frame_plane.proofs.lent.Sides.{Side, at_front, at_back, near, far, Countable, walk_by, RowSteps, LendsRow}
use Rattle.v_frame_raster.proofs.tables.Lists.{same_count}
use Rattle.v_frame_plane.proofs.iterators.BegunRows.{IsDrawn, first_drawn, last_drawn, drawn_countable, none_countable}
use Rattle.v_frame_plane.proofs.iterators.BegunRows.{last_row_left}

module _ {T : Type 0} (old : PixelsMut T) (rows : RowsMut T) where
  abbrev was : List (List T)
  was = rows_left old.rows

  abbrev left : List (List T)
  left = rows_left rows

  module _ (row : MutBor (List T)) where
    drawn : (s : Side) → RowSteps s old.rows row.now rows → IsDrawn was row.now left
    drawn at_front is = first_drawn is
    drawn at_back is = last_drawn is

    pub begun_countable : (s : Side) → RowSteps s old.rows row.now rows → Countable s row.now left (far s old).now
    begun_countable at_front is = drawn_countable old.countable (drawn at_front is) row.now old.back.now (omega arith)
    begun_countable at_back is = drawn_countable old.countable (drawn at_back is) old.front.now row.now (omega arith)

    abbrev pub begun : (s : Side) → RowSteps s old.rows row.now rows → PixelsMut T
    begun s is = walk_by s row rows (far s old) (begun_countable s is)

    pub begun_left : (s : Side) (is : RowSteps s old.rows row.now rows) → length (near s old).now ≡ 0 → pixels_left
        (begun s is) ≡ pixels_left old
    begun_left at_front is none = rw (nil_from_length old.front.now none, is)
        (sym (append_assoc row.now (row_major left) old.back.now))
    begun_left at_back is none = last_row_left old.front.now old.back.now row.now was left none is

    pub begun_full : (s : Side) (is : RowSteps s old.rows row.now rows) → length (near s (begun s is)).now ≡ 0 →
        pixels_left (begun s is) ≡ []
    begun_full at_front is none = absurd (omega (arith, ((drawn at_front is).full old.countable.full).0, none))
    begun_full at_back is none = absurd (omega (arith, ((drawn at_back is).full old.countable.full).0, none))

  -- The value e is the one that `take` leaves.
  module _ (e : MutBor (List T)) (empty : e.now ≡ []) (had : was ≡ []) (none : left ≡ []) where
    pub taken_countable : (s : Side) → Countable s (far s old).now left e.now
    taken_countable at_front = none_countable old.countable none old.back.now e.now (omega (arith, ap length empty))
    taken_countable at_back = none_countable old.countable none e.now old.front.now (omega (arith, ap length empty))

    abbrev pub taken : Side → PixelsMut T
    taken s = walk_by s (far s old) rows e (taken_countable s)

    pub taken_left : (s : Side) → length (near s old).now ≡ 0 → pixels_left (taken s) ≡ pixels_left old
    taken_left at_front nil = rw (nil_from_length old.front.now nil, had, none, empty) (append-nil old.back.now)
    taken_left at_back nil = rw (nil_from_length old.back.now nil, had, none, empty) (sym (append-nil old.front.now))

    pub taken_none : (s : Side) → length (near s (taken s)).now ≡ 0 → pixels_left (taken s) ≡ []
    taken_none at_front nil = rw (nil_from_length old.back.now nil, none, empty) refl
    taken_none at_back nil = rw (nil_from_length old.front.now nil, none, empty) refl

module _ {M : Type 1} {𝓤 : Ura M} (𝓛 : Logic 𝓤) (T : RattleType) where
  abbrev Ends : MutBor (List T.Denot) → List T.Denot → Fml
  Ends x entries = EndsAs T x.ghost_name entries

  -- Nothing remained at this end, and `given` is the effect of taking a row.
  keeps_by : (s : Side) (old new : PixelsMut T.Denot) (given : Fml) (turn : Parts T.Denot → Parts T.Denot) → length
      (near s old).now ≡ 0
      → ((second : List T.Denot) (parts : Parts T.Denot) → ArePartsOf new second parts → ArePartsOf old second
      (turn parts) ×
      (ent 𝓤 (sep 𝓤 (sem 𝓛 given) (sep 𝓤 (sem 𝓛 (Ends (near s old) [])) (sem 𝓛 (PartsEnd T new parts))))
      (sem 𝓛 (PartsEnd T old (turn parts)))))
      → ent 𝓤 (sem 𝓛 (fsep (Ends (near s old) (near s old).now) given)) (sem 𝓛 (KeepsPixels T old new))
  unfolding FinalPixels
  keeps_by s old new given turn none goes =
      qed 𝓛 (‵ (fsep (Ends (near s old) (near s old).now) given) ∷ []) ∵ fsplit ! $
      rewrite ! 0 (λ xs. ‵ (Ends (near s old) xs)) (nil_from_length (near s old).now none) refl $
      each ! (λ (second : List T.Denot). wand 𝓤 (sem 𝓛 (FinalPixels T new second)) (sem 𝓛 (FinalPixels T old second)))
      (λ second.
      assume ! (‵ (FinalPixels T new second)) $ fpick ! (λ parts. fpick ! (λ are. let to = goes second parts are in
      -- Context: [the parts; the end; the result]
      move ! (2 ∷ 1 ∷ 0 ∷ []) $ use3 𝓛 (‵ (PartsEnd T old (turn parts))) to.1 $
      use1 𝓛 (‵ (FinalPixels T old second)) (of_parts 𝓛 T old second (turn parts) to.0) $ done !)))

  module _ (old : PixelsMut T.Denot) (rows : RowsMut T.Denot) where
    abbrev Left : List (List T.Denot)
    Left = rows_left rows

    -- The row that was used up, and the effect of taking a row.
    abbrev Drawn : Side → Option (MutBor (List T.Denot)) → Fml
    Drawn s r = fsep (Ends (near s old) (near s old).now) (LendsRow s T old.rows r rows)

    module _ (row : MutBor (List T.Denot)) where
      abbrev Both : List T.Denot × List (List T.Denot) → SProp 𝓤
      Both held = sep 𝓤 (sem 𝓛 (Ends row held.0)) (sem 𝓛 (FinalRows T rows held.1))

      pub keeps_begun : (s : Side) (is : RowSteps s old.rows row.now rows) → length (near s old).now ≡ 0 →
          ent 𝓤 (sem 𝓛 (Drawn s (Some row))) (sem 𝓛 (KeepsPixels T old (begun old rows row s is)))
      keeps_begun at_front is none =
          let new = begun old rows row at_front is in
          keeps_by at_front old new (TakesFirstRow T old.rows rows row)
          (λ parts. parts_of [] (parts.front ∷ parts.rows) parts.back) none (λ second parts are. (
            record {
              joined = are.joined ∙ sym (append_assoc parts.front (row_major parts.rows) parts.back);
              front = sym none;
              rows = rw (is, are.front, are.rows) refl;
              back = are.back;
            },
            qed 𝓛 (‵ (TakesFirstRow T old.rows rows row) ∷ ‵ (Ends old.front []) ∷ ‵ (PartsEnd T new parts) ∷ []) ∵
                move ! (2 ∷ []) $ fsplit3 ! $
                -- Context: [the row; the rows; the back; the effect of the call; the old front]
                move ! (3 ∷ 0 ∷ 1 ∷ []) $ use3 𝓛 (‵ (FinalRows T old.rows (parts.front ∷ parts.rows)))
                (at_one 𝓛 Both (λ held. sem 𝓛 (FinalRows T old.rows (held.0 ∷ held.1))) (parts.front, parts.rows)) $
                move ! (2 ∷ 0 ∷ 1 ∷ []) $ fjoin3 ! $ done !,
          ))
      keeps_begun at_back is none =
          let new = begun old rows row at_back is in
          let Gives : List T.Denot × List (List T.Denot) → SProp 𝓤 = λ held. wand 𝓤 (Both held)
          (sem 𝓛 (FinalRows T old.rows (held.1 ++ held.0 ∷ []))) in
          let Says : List T.Denot × List (List T.Denot) → SProp 𝓤 = λ held. all 𝓤
          (λ (same : length held.1 ≡ length Left). Gives held) in
          keeps_by at_back old new (TakesLastRow T old.rows rows row)
          (λ parts. parts_of parts.front (parts.rows ++ parts.back ∷ []) []) none
          (λ second parts are. let held : List T.Denot × List (List T.Denot) = (parts.back, parts.rows) in (
            record {
              joined = are.joined ∙ last_row_left parts.front [] parts.back (parts.rows ++ parts.back ∷ []) parts.rows
                  refl refl;
              front = are.front;
              rows = rw (
                is,
                map-append length parts.rows (parts.back ∷ []),
                map-append length Left (row.now ∷ []),
                are.back,
                are.rows,
              ) refl;
              back = sym none;
            },
            qed 𝓛 (‵ (TakesLastRow T old.rows rows row) ∷ ‵ (Ends old.back []) ∷ ‵ (PartsEnd T new parts) ∷ []) ∵
                use1 𝓛 (raw (Says held)) (all_e 𝓤 Says held) $
                use1 𝓛 (raw (Gives held)) (all_e 𝓤 (λ (same : length held.1 ≡ length Left). Gives held)
                (same_count parts.rows Left are.rows)) $
                move ! (2 ∷ []) $ fsplit3 ! $
                -- Context: [the front; the rows; the row; the effect of the call; the old back]
                move ! (2 ∷ 1 ∷ []) $ join ! $ move ! (0 ∷ 2 ∷ []) $
                use2 𝓛 (‵ (FinalRows T old.rows (parts.rows ++ parts.back ∷ []))) (apply∗ 𝓤 (Both held) _) $
                move ! (1 ∷ 0 ∷ []) $ fjoin3 ! $ done !,
          ))

    module _ (e : MutBor (List T.Denot)) (empty : e.now ≡ []) (had : rows_left old.rows ≡ []) (none : Left ≡ []) where
      no_rows : (parts : List (List T.Denot)) → map length parts ≡ map length Left → parts ≡ []
      no_rows parts same = nil_from_length parts (same_count parts Left same ∙ ap length none)

      rows_kept : (ps : List (List T.Denot)) → map length ps ≡ map length Left →
          ent 𝓤 (sep 𝓤 (sem 𝓛 (KeepsRows T old.rows rows)) (sem 𝓛 (FinalRows T rows ps)))
          (sem 𝓛 (FinalRows T old.rows []))
      rows_kept ps same = qed 𝓛 (‵ (KeepsRows T old.rows rows) ∷ ‵ (FinalRows T rows ps) ∷ []) ∵ use2 𝓛
          (‵ (FinalRows T old.rows ps))
          (at_one 𝓛 (λ second. sem 𝓛 (FinalRows T rows second)) (λ second. sem 𝓛 (FinalRows T old.rows second)) ps) $
          rewrite ! 0 (λ second. ‵ (FinalRows T old.rows second)) (no_rows ps same) refl $ done !

      pub keeps_taken : (s : Side) → length (near s old).now ≡ 0 → ent 𝓤 (sem 𝓛 (Drawn s None))
          (sem 𝓛 (KeepsPixels T old (taken old rows e empty had none s)))
      keeps_taken at_front nil =
          let new = taken old rows e empty had none at_front in
          keeps_by at_front old new (KeepsRows T old.rows rows) (λ parts. parts_of [] [] parts.front) nil
          (λ second parts are. (
            record {
              joined = are.joined ∙
                  rw (no_rows parts.rows are.rows, nil_from_length parts.back (are.back ∙ ap length empty))
                  (append-nil parts.front);
              front = sym nil;
              rows = rw had refl;
              back = are.front;
            },
            qed 𝓛 (‵ (KeepsRows T old.rows rows) ∷ ‵ (Ends old.front []) ∷ ‵ (PartsEnd T new parts) ∷ []) ∵ move !
                (2 ∷ []) $ fsplit3 ! $
                -- Context: [the old back; the rows; the slice taken from; the fact that the rows are kept; the old
                -- front]
                move ! (3 ∷ 1 ∷ []) $ use2 𝓛 (‵ (FinalRows T old.rows [])) (rows_kept parts.rows are.rows) $ keep !
                (3 ∷ 0 ∷ 1 ∷ []) $ fjoin3 ! $ done !,
          ))
      keeps_taken at_back nil =
          let new = taken old rows e empty had none at_back in
          keeps_by at_back old new (KeepsRows T old.rows rows) (λ parts. parts_of parts.back [] []) nil
          (λ second parts are. (
            record {
              joined = are.joined ∙
                  rw (no_rows parts.rows are.rows, nil_from_length parts.front (are.front ∙ ap length empty))
                  (sym (append-nil parts.back));
              front = are.back;
              rows = rw had refl;
              back = sym nil;
            },
            qed 𝓛 (‵ (KeepsRows T old.rows rows) ∷ ‵ (Ends old.back []) ∷ ‵ (PartsEnd T new parts) ∷ []) ∵ move !
                (2 ∷ []) $ fsplit3 ! $
                -- Context: [the slice taken from; the rows; the old front; the fact that the rows are kept; the old
                -- back]
                move ! (3 ∷ 1 ∷ []) $ use2 𝓛 (‵ (FinalRows T old.rows [])) (rows_kept parts.rows are.rows) $ keep !
                (2 ∷ 0 ∷ 3 ∷ []) $ fjoin3 ! $ done !,
          ))
