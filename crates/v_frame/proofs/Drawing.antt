-- A call from a side in a hand-written proof: the side, and the clauses of `next` or `next_back`. Assumes `Logic`.
use Rattle.v_frame_buffer.proofs.Steps.{RattleType, subst, sym, ◌≡◌, List, [], ◌∷◌, Option, MutBor, refl, ap, SProp}
use Rattle.v_frame_buffer.proofs.Steps.{ent, sep, fact, fact_i, shows, ⊤, MakesProgress, item_count, YieldsFirstMut}
use Rattle.v_frame_buffer.proofs.Steps.{YieldsLastMut, only, peeks, Val, Ura, Goal, Item, Seq, ‵, raw, ◌$◌, drop, Logic}
use Rattle.v_frame_buffer.proofs.Steps.{sem, fst∗, mono_r, fact_use, ⋆}
use Rattle.std.specs.{Option.option_copied_mut}
use Rattle.v_frame.specs.{Walk.item_from, Walk.remaining_after, contracts.replay.draw.Side.the_row}
use Rattle.v_frame.specs.declared.replay.draw.Side.{Side, TheVariants.Front, TheVariants.Back}
use Rattle.v_frame.proofs.ItemKinds.{Entry, Kind, Lends, Walk, left}
use Rattle.v_frame.proofs.{DrawnItems.first_drawn, DrawnItems.last_drawn, replay.draw.Side.TheLaws.lowers}

module _ {M : Type 1} {𝓤 : Ura M} {𝓛 : Logic 𝓤} {K : Type 0} {Γ : List (Item 𝓤)} {G : Goal 𝓤 𝓛.H} where
  pub by_side : K → (side : Side) (u : Val) → (side ≡ Front → u ≡ lowers.lowered Front → Seq K 𝓛 Γ G) →
      (side ≡ Back → u ≡ lowers.lowered Back → Seq K 𝓛 Γ G)
      → Seq K 𝓛 (‵ (the_row.own_val side (u ∷ [])) ∷ Γ) G
  by_side t Front u front back = peeks t the_row _ (shows 𝓛 the_row) Front (u ∷ [])
      (λ is. drop t $ front refl (ap only (lowers.val_is Front (u ∷ []) is)))
  by_side t Back u front back = peeks t the_row _ (shows 𝓛 the_row) Back (u ∷ [])
      (λ is. drop t $ back refl (ap only (lowers.val_is Back (u ∷ []) is)))

module _ {M : Type 1} {𝓤 : Ura M} (𝓛 : Logic 𝓤) (T : RattleType) (k : Kind) (old : Walk T k)
    (r : Option (MutBor (Entry T k))) (new : Walk T k) where
  abbrev Gave : Side → Type 0
  Gave side = (option_copied_mut r ≡ item_from side (left T k old)) ×
      (left T k new ≡ remaining_after side (left T k old))

  -- The clauses of a call, stated for its side and for the function itself.
  abbrev pub Draws : Side → List (Item 𝓤)
  Draws side = ‵ (Lends T k side old r new) ∷ raw (fact 𝓤 (Gave side)) ∷ []

  abbrev Moves : SProp 𝓤
  Moves = fact 𝓤 (MakesProgress (λ _. ⊤) (item_count (left T k)) old r new)

  abbrev Says : Side → Type 0 → SProp 𝓤
  Says side yields = sep 𝓤 (sem 𝓛 (Lends T k side old r new)) (sep 𝓤 (fact 𝓤 yields) Moves)

  told_by : (s side : Side) (yields : Type 0) → (yields → Gave s) → side ≡ s → ent 𝓤 (Says s yields) (⋆ 𝓛 (Draws side))
  told_by s side yields gives is = subst (λ (z : Side). ent 𝓤 (Says s yields) (⋆ 𝓛 (Draws z))) (sym is)
      (mono_r 𝓤 (sem 𝓛 (Lends T k s old r new))
      (fact_use 𝓤 yields (fst∗ 𝓤 (fact 𝓤 yields) Moves) (λ x. fact_i 𝓤 (Gave s) _ (gives x))))

  pub from_front : (side : Side) → side ≡ Front → ent 𝓤 (Says Front (YieldsFirstMut (left T k) old r new))
      (⋆ 𝓛 (Draws side))
  from_front side = told_by Front side _ (first_drawn (left T k) old r new)

  pub from_back : (side : Side) → side ≡ Back → ent 𝓤 (Says Back (YieldsLastMut (left T k) old r new))
      (⋆ 𝓛 (Draws side))
  from_back side = told_by Back side _ (last_drawn (left T k) old r new)
