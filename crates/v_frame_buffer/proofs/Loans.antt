-- Steps for a hand-written proof of a function that makes calls within a new lifetime. Each step is one of the
-- logic's calculus, and acts on the head of the context. Assumes `Logic`.
-- - lft_within: the token of κ becomes the token of a new lifetime α ∷ κ, which lies within κ.
-- - lft_over: the new lifetime is over, and the token of κ is back.
-- - lends: the value at a place is lent for such a lifetime.
-- - comes_back: the loan is over, and the value is back with its changes.
-- - opens_self: a `&mut` to self is opened.
-- - at_one: a statement about each h with A h, used for one h.
use Rattle.v_frame_buffer.proofs.Steps.{ℕ, ◌≡◌, List, [], ◌∷◌, refl, Lft, Share, fat, fauth, flent, flft, fobor, fobs}
use Rattle.v_frame_buffer.proofs.Steps.{full_share, SProp, all, all_e, ent, sep, wand, apply∗, shows, cell_at, mem}
use Rattle.v_frame_buffer.proofs.Steps.{RattleType, MutBor, MutRef, mut_vals, opens, peeks, Ty, named, Val, vptr, Ura}
use Rattle.v_frame_buffer.proofs.Steps.{Goal, Item, Seq, Soaks, Step, step, ‵, raw, ◌⊛◌, some, later, ◌$◌, ◌∵◌, !, qed}
use Rattle.v_frame_buffer.proofs.Steps.{await, done, drop, fsplit3, move, pick, rewrite, split, use1, use2, use3, Logic}
use Rattle.v_frame_buffer.proofs.Steps.{Body, fdead, fres, part_in_at, part_out_at, meet_⊑_left, Is, lends_ref}
use Rattle.v_frame_buffer.proofs.Steps.{ref_back, lone, part_at, lft-common, lft_end, lft_new}
use base.FractionLaws.{common}
use denote.Lowered.{Lowered}
use mir.Raw.{raw as raw_ty}

-- The share of the token of α ∷ κ, for the share q of the token of κ.
abbrev pub share_within : Share → Share
share_within q = (common full_share q).0

-- The way back from the token of α ∷ κ to the token of κ.
abbrev pub Back : {M : Type 1} {𝓤 : Ura M} (𝓛 : Logic 𝓤) → ℕ → Lft → Share → SProp 𝓤
Back {𝓤 = 𝓤} 𝓛 α κ q = wand 𝓤 (𝓛.A.lft (α ∷ κ) (share_within q)) (sep 𝓤 (𝓛.A.lft (α ∷ []) full_share) (𝓛.A.lft κ q))

module _ {M : Type 1} {𝓤 : Ura M} {𝓛 : Logic 𝓤} {K : Type 0} {Γ : List (Item 𝓤)} {G : Goal 𝓤 𝓛.H} where
  abbrev pub lft_within : K → Soaks G → (κ : Lft) (q : Share) →
      ((α : ℕ) → Seq K 𝓛 (‵ (flft (α ∷ κ) (share_within q)) ∷ raw (Back 𝓛 α κ q) ∷ Γ) G) →
      Seq K 𝓛 (‵ (flft κ q) ∷ Γ) G
  lft_within t z κ q k = lft_new t z (λ α. use2 𝓛 (‵ (flft (α ∷ κ) (share_within q)) ⊛ raw (Back 𝓛 α κ q))
      (lft-common 𝓛 (α ∷ []) κ full_share q) $ split t $
      k α)

  abbrev pub lft_over : K → Soaks G → (α : ℕ) (κ : Lft) (q : Share) → Step K 𝓛 (‵ (fdead (α ∷ κ)) ∷ ‵ (flft κ q) ∷ Γ) G
      (‵ (flft (α ∷ κ) (share_within q)) ∷
      raw (Back 𝓛 α κ q) ∷ Γ) G
  lft_over t z α κ q = step (λ s. use2 𝓛 (‵ (flft (α ∷ []) full_share) ⊛ ‵ (flft κ q))
      (apply∗ 𝓤 (𝓛.A.lft (α ∷ κ) (share_within q)) _) $ split t $ lft_end t z $
      use1 𝓛 (‵ (fdead (α ∷ κ))) (𝓛.lfts.dead-incl (α ∷ κ) (α ∷ []) (meet_⊑_left (α ∷ []) κ)) $ s)

module _ {M : Type 1} {𝓤 : Ura M} {𝓛 : Logic 𝓤} {K : Type 0} {Γ : List (Item 𝓤)} {G : Goal 𝓤 𝓛.H} where
  -- The type of the cell in the machine is τ.
  module _ (t : K) (z : Soaks G) (R : RattleType) (one : R.mir ≡ lone R.mir ∷ []) (τ : Ty)
      (is : raw_ty τ ≡ raw_ty (lone R.mir)) where
    pub lends : (κ : Lft) (q : Share) (x : R.Denot) (b o : ℕ) (v : Val)
        → ((α γ : ℕ) → Seq K 𝓛 (‵ ((MutRef (named 0) (α ∷ κ) R).own_val
        (record { ref_ptr = (b, o); ghost_name = γ; now = x }) (vptr b o ∷ [])) ∷
        ‵ (flent (α ∷ κ) (Body (mem R) b o γ)) ∷ ‵ (flft (α ∷ κ) (share_within q)) ∷ raw (Back 𝓛 α κ q) ∷ Γ) G)
        → Seq K 𝓛 (‵ (fat full_share τ b o v) ∷ ‵ (R.own_val x (v ∷ [])) ∷ ‵ (flft κ q) ∷ Γ) G
    lends κ q x b o v k =
        use2 𝓛 (‵ (part_at R full_share x b o)) (part_in_at 𝓛 R one full_share x b o τ is v) $ move t (1 ∷ []) $
        lft_within t z κ q (λ α. move t (2 ∷ []) $
        use1 𝓛 (later (some (λ (γ : ℕ). ‵ ((MutRef (named 0) (α ∷ κ) R).own_val
        (record { ref_ptr = (b, o); ghost_name = γ; now = x }) (vptr b o ∷ [])) ⊛
        ‵ (flent (α ∷ κ) (Body (mem R) b o γ)))))
        (lends_ref 𝓛 R (named 0) (α ∷ κ) x b o) $ await t z $ pick t (λ γ. split t $ k α γ))

    pub comes_back : (κ : Lft) (γ b o : ℕ) (new : R.Denot) (v : Val) → ((u : Val) → Is R new (u ∷ []) → u ≡ v)
        → Step K 𝓛 (‵ (fat full_share τ b o v) ∷ ‵ (R.own_val new (v ∷ [])) ∷ Γ) G
        (‵ (fdead κ) ∷ ‵ (flent κ (Body (mem R) b o γ)) ∷
        ‵ (fres γ (R.coded.code new)) ∷ Γ) G
    comes_back κ γ b o new v spelled = step (λ k.
        use3 𝓛 (later (‵ (part_at R full_share new b o))) (ref_back 𝓛 R κ γ new b o) $ await t z $
        use1 𝓛 (some (λ (u : Val). ‵ (fat full_share τ b o u) ⊛ ‵ (R.own_val new (u ∷ []))))
        (part_out_at 𝓛 R one full_share new b o τ is) $
        pick t (λ u. split t $
        move t (1 ∷ []) $ peeks t R _ (shows 𝓛 R) new (u ∷ [])
        (λ its. rewrite t 0 (λ (w : Val). ‵ (R.own_val new (w ∷ []))) (spelled u its) refl $
        move t (1 ∷ []) $ rewrite t 0 (λ (w : Val). ‵ (fat full_share τ b o w)) (spelled u its) refl $ k)))

module _ {M : Type 1} {𝓤 : Ura M} {𝓛 : Logic 𝓤} {K : Type 0} {Γ : List (Item 𝓤)} {G : Goal 𝓤 𝓛.H} where
  -- A `&mut` is opened into its cell, its resources, and the open borrow, in three parts.
  pub opens_self : K → Soaks G → (R : RattleType) (κ : Lft) (q : Share) (self : MutBor R.Denot) (low : Lowered R) → let
      b = self.ref_ptr.0 in
      let o = self.ref_ptr.1 in let code = R.coded.code self.now in let vs = low.lowered self.now ∷ [] in
      Step K 𝓛 (‵ (cell_at full_share R.mir vs b o) ∷ ‵ (R.own_val self.now vs) ∷ ‵
      (fobor κ q (Body (mem R) b o self.ghost_name)) ∷
      ‵ (fobs self.ghost_name code) ∷ ‵ (fauth self.ghost_name code) ∷ Γ) G
      (‵ ((MutRef (named 0) κ R).own_val self (mut_vals self)) ∷ ‵ (flft κ q) ∷ Γ) G
  opens_self t z R κ q self low = step (λ k. let b = self.ref_ptr.0 in let o = self.ref_ptr.1 in
      fsplit3 t $ drop t $ opens t z R {h = self.now} b o
      (λ us. move t (1 ∷ []) $ peeks t R _ (shows 𝓛 R) self.now us (λ is.
      let e = low.val_is self.now us is in rewrite t 0 (λ (ws : List Val). ‵ (R.own_val self.now ws)) e refl $
      rewrite t 1 (λ (ws : List Val). ‵ (cell_at full_share R.mir ws b o)) e refl $ move t (1 ∷ []) $ k)))

pub at_one : {M : Type 1} {𝓤 : Ura M} (𝓛 : Logic 𝓤) {H : Type 0} (A B : H → SProp 𝓤) (h : H) → ent 𝓤
    (sep 𝓤 (all 𝓤 (λ (x : H). wand 𝓤 (A x) (B x))) (A h)) (B h)
at_one {𝓤 = 𝓤} 𝓛 {H = H} A B h = let Gives : H → SProp 𝓤 = λ x. wand 𝓤 (A x) (B x) in
    qed 𝓛 (raw (all 𝓤 Gives) ∷ raw (A h) ∷ []) ∵ use1 𝓛 (raw (Gives h)) (all_e 𝓤 Gives h) $ move ! (1 ∷ 0 ∷ []) $ use2
    𝓛 (raw (B h)) (apply∗ 𝓤 (A h) (B h)) $
    done !
