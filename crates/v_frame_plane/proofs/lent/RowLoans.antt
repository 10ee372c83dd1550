-- The final slice of an iterator that lent rows: the effect of a call on the final values, and of dropping the
-- iterator. Assumes `Logic`.
use Rattle.v_frame_buffer.proofs.Steps.{◌≡◌, ◌-◌, ◌<◌, List, [], ◌∷◌, ◌++◌, length, MutBor, refl, sym, ◌∙◌, SProp, all}
use Rattle.v_frame_buffer.proofs.Steps.{emp, ent, sep, wand, RattleType, NamedLft, Val, Ura, ‵, ◌⊛◌, ◌$◌, ◌∵◌, !, qed}
use Rattle.v_frame_buffer.proofs.Steps.{assume, done, drop, each, fpick, fsplit, keep, move, rewrite, split, use1}
use Rattle.v_frame_buffer.proofs.Steps.{Logic, sem, Some, None}
use Rattle.v_frame_plane.specs.RowsLeft.{rows_left}
use Rattle.v_frame_plane.specs.FinalRows.{EndsAs, FinalRows, KeepsRows, entries_with}
use Rattle.v_frame_plane.specs.contracts.rows_mut.RowsMut.{the_row}
use Rattle.v_frame_plane.specs.declared.rows_mut.RowsMut.{RowsMut}
use Rattle.v_frame_plane.proofs.iterators.Cursors.{count_left}
use Rattle.v_frame_plane.proofs.lent.Cuts.{Joins, joins, dropped}
use Rattle.v_frame_plane.proofs.lent.RowDraws.{Cut, behind_all, left}
use Rattle.v_frame_plane.proofs.lent.Sides.{Side, at_front, at_back, at_side, LendsRow}
use Rattle.v_frame_plane.proofs.lent.FinalRows.{with_rows_as_they_are, with_first_row, with_last_row}

module _ {M : Type 1} {𝓤 : Ura M} (𝓛 : Logic 𝓤) (T : RattleType) where
  abbrev Ends : MutBor (List T.Denot) → List T.Denot → SProp 𝓤
  Ends x xs = sem 𝓛 (EndsAs T x.ghost_name xs)

  -- If nothing is taken, nothing changes.
  pub keeps_rows : (walk : RowsMut T.Denot) → ent 𝓤 (emp 𝓤) (sem 𝓛 (KeepsRows T walk walk))
  keeps_rows walk = let FinalItems = FinalRows T walk in
      qed 𝓛 [] ∵ each ! (λ (second : List (List T.Denot)). wand 𝓤 (sem 𝓛 (FinalItems second))
      (sem 𝓛 (FinalItems second))) (λ second. assume ! (‵ (FinalItems second)) $
      done !)

  pub leaves_none : (s : Side) (walk : RowsMut T.Denot) → ent 𝓤 (emp 𝓤) (sem 𝓛 (LendsRow s T walk None walk))
  leaves_none at_front walk = keeps_rows walk
  leaves_none at_back walk = keeps_rows walk

  module _ (old : RowsMut T.Denot) (before at row behind : MutBor (List T.Denot)) (more : 0 < old.count) where
    abbrev Held : Type 0
    Held = List T.Denot × List (List T.Denot)

    pub leaves_row : (s : Side) (cut : Cut old before at row behind more s) → let other = at_side s before behind in
        ent 𝓤 (sep 𝓤 (Ends other other.now) (sep 𝓤 (sem 𝓛 (Joins T old.rest before at))
        (sem 𝓛 (Joins T at row behind))))
        (sem 𝓛 (LendsRow s T old (Some row) (left old before at row behind more s cut)))
    unfolding FinalRows
    leaves_row at_front cut =
        let new = left old before at row behind more at_front cut in
        let Both : Held → SProp 𝓤 = λ held. sep 𝓤 (Ends row held.0) (sem 𝓛 (FinalRows T new held.1)) in
        qed 𝓛 (‵ (EndsAs T before.ghost_name before.now) ∷ ‵ (Joins T old.rest before at) ∷ ‵ (Joins T at row behind) ∷
        []) ∵
        each ! (λ (held : Held). wand 𝓤 (Both held) (sem 𝓛 (FinalRows T old (held.0 ∷ held.1))))
        (λ held. assume ! (‵ (EndsAs T row.ghost_name held.0) ⊛
        ‵ (FinalRows T new held.1)) $ split ! $
        let rest = entries_with new held.1 in
        let entries : before.now ++ (held.0 ++ rest) ≡ entries_with old (held.0 ∷ held.1) =
        rw (cut.before_is, behind_all old before at row behind more at_front cut)
        (with_first_row old.start old.width old.gap old.count old.rest.now held.0 held.1 more) in
        -- Context: [the row; the rest; the part in front; how both are cut]
        move ! (4 ∷ 0 ∷ 1 ∷ []) $ joins ! T _ _ $ move ! (2 ∷ 1 ∷ 0 ∷ []) $ joins ! T _ _ $
        rewrite ! 0 (λ (xs : List T.Denot). ‵ (EndsAs T old.rest.ghost_name xs)) entries refl $ done !)
    leaves_row at_back cut =
        let new = left old before at row behind more at_back cut in
        let Both : Held → SProp 𝓤 = λ held. sep 𝓤 (Ends row held.0) (sem 𝓛 (FinalRows T new held.1)) in
        let Says : Held → SProp 𝓤 = λ held. wand 𝓤 (Both held) (sem 𝓛 (FinalRows T old (held.1 ++ held.0 ∷ []))) in
        qed 𝓛 (‵ (EndsAs T behind.ghost_name behind.now) ∷ ‵ (Joins T old.rest before at) ∷ ‵ (Joins T at row behind) ∷
        []) ∵
        each ! (λ (held : Held). all 𝓤 (λ (same : length held.1 ≡ length (rows_left new)). Says held))
        (λ held. each ! (λ (same : length held.1 ≡
        length (rows_left new)). Says held) (λ same. assume !
        (‵ (EndsAs T row.ghost_name held.0) ⊛ ‵ (FinalRows T new held.1)) $ split ! $
        let rest = entries_with new held.1 in
        let many : length held.1 ≡ old.count - 1 = same ∙ count_left new in
        let entries : rest ++ (held.0 ++ behind.now) ≡ entries_with old (held.1 ++ held.0 ∷ []) =
        rw (cut.before_is, behind_all old before at row behind more at_back cut)
        (with_last_row old.start old.width old.gap old.count old.rest.now held.0 held.1 more many) in
        -- Context: [the row; the rest; the part behind; how both are cut]
        move ! (4 ∷ 0 ∷ 2 ∷ []) $ joins ! T _ _ $ move ! (2 ∷ 1 ∷ 0 ∷ []) $ joins ! T _ _ $
        rewrite ! 0 (λ (xs : List T.Denot). ‵ (EndsAs T old.rest.ghost_name xs)) entries refl $ done !))

  -- The final values of a dropped iterator are its current rows.
  pub rows_dropped : (a : NamedLft) (walk : RowsMut T.Denot) (vs : List Val) →
      ent 𝓤 (sem 𝓛 ((the_row a T).own_val walk vs)) (sem 𝓛 (FinalRows T walk (rows_left walk)))
  unfolding FinalRows rows_left
  rows_dropped a walk vs = qed 𝓛 (‵ ((the_row a T).own_val walk vs) ∷ []) ∵ fpick !
      (λ vss. fsplit ! $ drop ! $ fsplit ! $ keep ! (0 ∷ []) $
      use1 𝓛 (‵ (EndsAs T walk.rest.ghost_name walk.rest.now)) (dropped 𝓛 T a.mir a.lft walk.rest vss.0) $
      rewrite ! 0 (λ (xs : List T.Denot). ‵ (EndsAs T walk.rest.ghost_name xs)) (sym
      (with_rows_as_they_are walk.start walk.width walk.gap walk.count walk.rest.now)) refl $ done !)
