-- An item that is taken from an iterator and changed: the item that a call yields, and the contracts of the functions
-- that take and change it, for each kind of iterator. Assumes `Logic`.
use Rattle.v_frame.proofs.Steps.{finally-res, mut_ref_field, mut_ref_laws, mut_ref_shared}
use Rattle.v_frame_buffer.proofs.Steps.{List, MutRef, MutSlice, Val, done, fsplit, is, keep, named, param, param_laws}
use Rattle.v_frame_buffer.proofs.Steps.{refl, use1, vptr, yes, !, [], ‵, ◌$◌, ◌∷◌, ◌≡◌, Fml, NamedLft, Lft, Is}
use Rattle.v_frame_buffer.proofs.Steps.{of_field, row_shared, qed, ◌∵◌, Logic, Ura, RattleType, Laws, ent, sem, Running}
use Rattle.v_frame_buffer.proofs.Steps.{RowLaws, Dict, Model}
use denote.Exit.{Last, left as left_at}
use Rattle.v_frame.proofs.ItemKinds.{Ends, Kind, Promise, draw_row, of_pixels}
use Rattle.std.specs.{declared.clone.Clone.Ghosts}
use Rattle.v_frame_buffer.proofs.Slices.{slice_of, slice_laws}
use Rattle.v_frame.specs.declared.replay.draw.Side.{Side, TheVariants.Front, TheVariants.Back}
use Rattle.v_frame_plane.specs.contracts as lower
use Rattle.v_frame.specs.contracts.replay as replay
use Rattle.v_frame.proofs.replay.draw.PixelDraw.TheLaws as pixel_draw_laws
use Rattle.v_frame.proofs.replay.draw.RowDraw.TheLaws as row_draw_laws

module _ (T : RattleType) where
  abbrev pub draws_laws : (k : Kind) → Laws T → RowLaws (draw_row k (param 0 T))
  draws_laws of_pixels laws = (pixel_draw_laws.the_row_laws (param 0 T) (param_laws 0 T laws)).shr_laws
  draws_laws _ laws = (row_draw_laws.the_row_laws (param 0 T) (param_laws 0 T laws)).shr_laws

  module _ (κ : Lft) where
    -- The item that a call yields, its laws, and its machine value.
    abbrev pub given : Kind → RattleType
    given of_pixels = MutRef (named 1) κ (param 0 T)
    given _ = MutSlice (named 1) κ (param 0 T)

    abbrev pub given_laws : (k : Kind) → Laws T → Laws (given k)
    given_laws of_pixels laws = let ℓ : NamedLft = record { mir = named 1; lft = κ } in let item = param 0 T in
        of_field (mut_ref_field ℓ item tt) (mut_ref_laws ℓ item tt) refl
        (mut_ref_shared ℓ item tt (row_shared item (param_laws 0 T laws)))
    given_laws _ laws = slice_laws T κ laws

    abbrev pub its_value : (k : Kind) → (given k).Denot → Val
    its_value of_pixels x = vptr x.ref_ptr.0 x.ref_ptr.1
    its_value _ x = slice_of x

    pub value_is : (k : Kind) (x : (given k).Denot) (vs : List Val) → Is (given k) x vs → vs ≡ its_value k x ∷ []
    value_is of_pixels x vs is = is.0
    value_is _ x vs is = is.0.0

    -- The final value of the item.
    abbrev pub Left : (k : Kind) (x : (given k).Denot) → Last ((given k).exit yes) x → Fml
    Left of_pixels x = Ends T of_pixels x
    Left k x = Ends T k x

    pub left_as : {M : Type 1} {𝓤 : Ura M} (𝓛 : Logic 𝓤) (k : Kind) (x : (given k).Denot)
        (w : Last ((given k).exit yes) x) →
        ent 𝓤 (sem 𝓛 (left_at ((given k).exit yes) x w)) (sem 𝓛 (Left k x w))
    left_as 𝓛 of_pixels x w = qed 𝓛 (‵ (left_at ((given of_pixels).exit yes) x w) ∷ []) ∵ fsplit ! $ keep ! (0 ∷ []) $
        done !
    left_as 𝓛 k x w = qed 𝓛 (‵ (left_at ((given k).exit yes) x w) ∷ []) ∵ fsplit ! $ fsplit ! $ keep ! (0 ∷ []) $
        use1 𝓛 (‵ (Left k x w)) (finally-res 𝓛 (param 0 T) x.ghost_name w) $ done !

module _ {M : Type 1} {𝓤 : Ura M} (𝓛 : Logic 𝓤) (𝓜 : Model 𝓤 𝓛.H) (𝓡 : Running 𝓤 𝓛.H 𝓜) (T : RattleType) where
  abbrev pub asks : Kind → Promise 𝓤
  asks of_pixels = (replay.draw.PixelDrawDraw.side.ended T, replay.draw.PixelDrawDraw.side.clauses T 𝓛 𝓜.mem 𝓡.returns)
  asks _ = (replay.draw.RowDrawDraw.side.ended T, replay.draw.RowDrawDraw.side.clauses T 𝓛 𝓜.mem 𝓡.returns)

  abbrev pub draws : Kind → Side → Promise 𝓤
  draws of_pixels Front = (
    lower.pixels_mut.PixelsMut.next.ended T,
    lower.pixels_mut.PixelsMut.next.clauses T 𝓛 𝓜.mem
        𝓡.returns,
  )
  draws of_pixels Back = (
    lower.pixels_mut.PixelsMut.next_back.ended T,
    lower.pixels_mut.PixelsMut.next_back.clauses T
        𝓛 𝓜.mem 𝓡.returns,
  )
  draws _ Front = (lower.rows_mut.RowsMut.next.ended T, lower.rows_mut.RowsMut.next.clauses T 𝓛 𝓜.mem 𝓡.returns)
  draws _ Back = (
    lower.rows_mut.RowsMut.next_back.ended T,
    lower.rows_mut.RowsMut.next_back.clauses T 𝓛 𝓜.mem
        𝓡.returns,
  )

  abbrev pub law : Kind → Promise 𝓤
  law of_pixels = (
    lower.laws.dropped_pixels_keep_their_values.ended T,
    lower.laws.dropped_pixels_keep_their_values.clauses T 𝓛 𝓜.mem 𝓡.returns,
  )
  law _ = (
    lower.laws.held_rows_are_the_table.ended T,
    lower.laws.held_rows_are_the_table.clauses T 𝓛 𝓜.mem 𝓡.returns,
  )

  abbrev pub changes : Ghosts T.Denot → Dict → Kind → Promise 𝓤
  changes clone dict of_pixels = (
    replay.pixel_writes.replace_by.ended T clone dict,
    replay.pixel_writes.replace_by.clauses T clone dict 𝓛 𝓜.mem 𝓡.returns,
  )
  changes clone dict _ = (
    replay.row_writes.overwrite_by.ended T clone dict,
    replay.row_writes.overwrite_by.clauses T
        clone dict 𝓛 𝓜.mem 𝓡.returns,
  )
