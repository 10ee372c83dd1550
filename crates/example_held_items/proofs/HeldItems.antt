-- Steps of a hand-written proof of a function that keeps rows or pixels that a writing iterator lends: see
-- `ItemKinds.antt`. Assumes `Logic`.
-- - draws_item: a call of `next` or `next_back` on an iterator in a local, and the item that it yields, if any.
-- - takes_arm, takes_other: the first arm of a `match` is for an item, and the second for none.
use Rattle.v_frame_buffer.proofs.Steps.{Is, Item, Lft, List, MakesProgress, MutBor, MutRef, MutSlice, NamedLft, Option}
use Rattle.v_frame_buffer.proofs.Steps.{Val, YieldsFirstMut, YieldsLastMut, ap, drop, exec, fact, flft, framed, heard}
use Rattle.v_frame_buffer.proofs.Steps.{id⊢, item_count, live, meet_⊑_right, move, named, of_list, only, param, raw}
use Rattle.v_frame_buffer.proofs.Steps.{refl, rewrite, runs, subst, switches_on, tables, vint, vptr, ℕ, [], ‵, ⊑_trans}
use Rattle.v_frame_buffer.proofs.Steps.{⊤, ◌$◌, ◌∷◌, ◌≡◌, ◌⊑◌, Calls, Env, call, Laws, Logic, Loops, None, Post}
use Rattle.v_frame_buffer.proofs.Steps.{and_then, no_more, RattleType, Seq, Share, Some, Step, Ty, Ura, fat, full_share}
use Rattle.v_frame_buffer.proofs.Steps.{lands, lone, regoal, seq, step, switch, arm, w8, Model, Running, MachineTables}
use Rattle.v_frame.proofs.Steps.{Bound}
use mir.Raw.{raw as raw_ty}
use mir.Syntax.{Arms, Body as Code, Callee, Opd as Operand, Place}
use types.Run.{Opd}
use Rattle.v_frame.proofs.CallSteps.{asks_that, calls}
use Rattle.v_frame.proofs.ItemKinds.{Entry, Kept, Kind, Lends, Walk, left, neither, walk_row}
use Rattle.v_frame.proofs.WriteItem.{draws, given, its_value, value_is}
use Rattle.v_frame.specs.{declared.replay.draw.Side.Side, declared.replay.draw.Side.TheVariants.Back}
use Rattle.v_frame.specs.{declared.replay.draw.Side.TheVariants.Front}
use Rattle.v_frame_buffer.proofs.{Loans.share_within}
use Rattle.v_frame_buffer.proofs.Slices.{slice_of}
use Rattle.v_frame.proofs.{Lending.lends_walk, Lending.lowers, Lending.walk_back, OptionCases.by_told}
use base.Share
use Rattle.v_frame_plane.specs.contracts.pixels_mut.PixelsMut as pixels_mut
use Rattle.v_frame_plane.specs.contracts.rows_mut.RowsMut as rows_mut

module _ {M : Type 1} {𝓤 : Ura M} {𝓛 : Logic 𝓤} {K : Type 0} {Γ : List (Item 𝓤)} {E : Env 𝓤 𝓛.H} {C : Calls 𝓤 𝓛.H}
    {Λ : Loops 𝓤 𝓛.H} {q : Post 𝓤 𝓛.H}
    {tag : Operand} {taken : Code} {others : Arms} where
  pub takes_arm : K → Opd K 𝓛 Γ E tag (vint w8 1) → Step K 𝓛 Γ (runs C Λ E taken q) Γ
      (runs C Λ E (switch tag (arm (1 ∷ []) taken others)) q)
  takes_arm t is_some = step (λ k. switches_on t is_some $ exec t C Λ E taken q $ k)

  pub takes_other : K → {some : Code} → Opd K 𝓛 Γ E tag (vint w8 0) →
      Step K 𝓛 Γ (runs C Λ E taken q) Γ (runs C Λ E (switch tag (arm (1 ∷ []) some (arm (0 ∷ []) taken others))) q)
  takes_other t is_none = step (λ k. switches_on t is_none $ exec t C Λ E taken q $ k)

module _ (T : RattleType) where
  -- The item that a call from a side yields, and the iterator afterwards.
  abbrev pub Yields : (k : Kind) → Side → Walk T k → Option (MutBor (Entry T k)) → Walk T k → Type 0
  Yields k Front = YieldsFirstMut (left T k)
  Yields k Back = YieldsLastMut (left T k)

module _ {M : Type 1} {𝓤 : Ura M} (𝓛 : Logic 𝓤) (𝓜 : Model 𝓤 𝓛.H) (𝓡 : Running 𝓤 𝓛.H 𝓜) (T : RattleType)
    (laws : Laws T) where
  abbrev 𝓣 : MachineTables 𝓤 𝓛.H 𝓜
  𝓣 = tables 𝓤 𝓛.H 𝓜 𝓡 𝓡.env

  -- Context before the call: [its cell; the iterator; its token; the token of κT]. Context after it: [its cell; the
  -- item, if any; the iterator; its token; how it was drawn; the token of κT].
  abbrev Draws : Kind → Side → Type 2
  Draws neither side = Unit {2}
  Draws k side = (K : Type 0) (Γ : List (Item 𝓤)) (E : Env 𝓤 𝓛.H) (p : Post 𝓤 𝓛.H) (f : Callee) (x : Operand)
      (d : Place) (rest : Code) → K →
      Kept 𝓛 𝓜 𝓡 (draws 𝓛 𝓜 𝓡 T k side) f → (κ κT : Lft) (q qT : Share) → κ ⊑ κT → κT ⊑ T.lives → (τ : Ty) (b : ℕ)
      (old : Walk T k) →
      let ℓ : NamedLft = record { mir = named 1; lft = κ } in let R = walk_row k ℓ (param 0 T) in let low =
      (lowers 𝓛 𝓜 𝓡 T laws k ℓ).lowered in
      let X = given T κ k in let Cell = λ (walk : Walk T k). ‵ (fat full_share τ b 0 (low walk)) in
      let Drawn = λ (r : Option (MutBor (Entry T k))) (new : Walk T k). ‵ (R.own_val new (low new ∷ [])) ∷ ‵ (flft κ q)
      ∷ ‵ (Lends T k side old r new) ∷
      ‵ (flft κT qT) ∷ Γ in
      raw_ty τ ≡ raw_ty (lone R.mir) → ((i j l : Item 𝓤) → Opd K 𝓛 (i ∷ j ∷ l ∷ Γ) E x (vptr b 0)) →
      ((new : Walk T k) → Yields T k side old None new → Seq K 𝓛 (Cell new ∷ Drawn None new)
      (lands 𝓣.C 𝓣.Λ E d (live 0 (of_list [])) rest p)) →
      ((x : MutBor (Entry T k)) (new : Walk T k) → Yields T k side old (Some x) new → Is X x (its_value T κ k x ∷ []) →
      Seq K 𝓛 (Cell new ∷ ‵ (X.own_val x (its_value T κ k x ∷ [])) ∷ Drawn (Some x) new)
      (lands 𝓣.C 𝓣.Λ E d (live 1 (of_list (its_value T κ k x ∷ []))) rest p))
      → Seq K 𝓛 (Cell old ∷ ‵ (R.own_val old (low old ∷ [])) ∷ ‵ (flft κ q) ∷ ‵ (flft κT qT) ∷ Γ)
      (runs 𝓣.C 𝓣.Λ E (seq (call f (x ∷ []) d) rest) p)

  pub draws_item : (side : Side) (k : Kind) → Draws k side
  draws_item Front neither = tt
  draws_item Back neither = tt
  draws_item side k = λ K Γ E p f x d rest t met κ κT q qT inside inT τ b old same reads none some.
      let ℓ : NamedLft = record { mir = named 1; lft = κ } in let R = walk_row k ℓ (param 0 T) in let low = lowers 𝓛 𝓜
      𝓡 T laws k ℓ in
      let Lent = λ (new : Walk T k) (r : Option (MutBor (Entry T k))). ‵ (Lends T k side old r new) in
      let Lands = λ (u : Val). lands 𝓣.C 𝓣.Λ E d u rest p in
      lends_walk t tt R refl τ same κ q old b 0 (low.lowered old)
      (λ β γ. let κc : Lft = β ∷ κ in let in_c = meet_⊑_right (β ∷ []) κ in
      let lent : MutBor (Walk T k) = record { ref_ptr = (b, 0); ghost_name = γ; now = old } in let at = vptr b 0 ∷ [] in
      let across = ⊑_trans κc κ κT in_c inside in let its : Bound 𝓛 (draws 𝓛 𝓜 𝓡 T k side).0.signature = (
        (κc, (κ, (κT, tt))),
        (share_within (Share.left q), (Share.right q, (qT, tt))),
        (in_c, (across, (inside, tt))),
        (lent, tt),
        (at, tt),
      ) in
      calls t (1 ∷ 2 ∷ 5 ∷ 0 ∷ []) (framed 𝓤 𝓛.H 𝓜 𝓣) (draws 𝓛 𝓜 𝓡 T k side).0 (draws 𝓛 𝓜 𝓡 T k side).1 met (its, tt)
      (asks_that 𝓤 inT) refl
      (and_then t (reads _ _ _) (no_more t)) (λ r ws. Lent ws.0 r ∷ raw (fact 𝓤 (Yields T k side old r ws.0)) ∷
      raw (fact 𝓤 (MakesProgress (λ _. ⊤) (item_count (left T k)) old r ws.0)) ∷ []) (λ r ws. id⊢ 𝓤 _)
      (λ v r ws. let new = ws.0 in
      let yields = λ (r : Option (MutBor (Entry T k))). Yields T k side old r new in
      move t (2 ∷ 3 ∷ []) $ heard t _ (λ steps. drop t $ move t (2 ∷ 3 ∷ 5 ∷ 6 ∷ 7 ∷ []) $ walk_back t tt R refl τ same
      κ q β γ b 0 new (low.lowered new)
      (λ u is. ap only (low.val_is new (u ∷ []) is)) $ move t (3 ∷ []) $
      by_told t (given T κ k) (its_value T κ k) (value_is T κ k) r v
      (λ is e. rewrite t 3 (Lent new) is refl $ regoal t Lands e refl $ none new (subst yields is steps))
      (λ x is e told. rewrite t 4 (Lent new) is refl $ regoal t Lands e refl $ move t (1 ∷ []) $ some x new
      (subst yields is steps) told))))
