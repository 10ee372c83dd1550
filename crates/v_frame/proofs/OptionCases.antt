-- An `Option` by value in a hand-written proof: the proof continues for each variant. by_ref is for an `Option` of a
-- `&mut`. Assumes `Logic`.
use Rattle.v_frame_buffer.proofs.Steps.{Lft, MutBor, MutRef, mut_vals, peeks, rewrite, shows, ◌≡◌, List, [], ◌∷◌}
use Rattle.v_frame_buffer.proofs.Steps.{Option, Some, None, refl, ap, ◌∙◌, RattleType, only, Val, of_list, vptr, Ura}
use Rattle.v_frame_buffer.proofs.Steps.{Goal, Item, Seq, ‵, ◌$◌, drop, feq_l, fpick, fsplit, live, move, Logic, Is}
use Rattle.v_frame_buffer.proofs.Steps.{Lifetime, append-nil}
use Rattle.std.proofs.{Common.subst}
use Rattle.std.specs.contracts.option.Option as Opt

module _ {M : Type 1} {𝓤 : Ura M} {𝓛 : Logic 𝓤} {K : Type 0} {Γ : List (Item 𝓤)} {G : Goal 𝓤 𝓛.H} where
  pub by_option : K → (X : RattleType) (r : Option X.Denot) (v : Val) →
      (r ≡ None → v ≡ live 0 (of_list []) → Seq K 𝓛 Γ G)
      → ((x : X.Denot) (vs : List Val) → r ≡ Some x → v ≡ live 1 (of_list vs) → Seq K 𝓛 (‵ (X.own_val x vs) ∷ Γ) G)
      → Seq K 𝓛 (‵ ((Opt.the_row X).own_val r (v ∷ [])) ∷ Γ) G
  by_option t X None v none some = fpick t (λ us. fsplit t $ feq_l t (λ e. fpick t (λ vss. fsplit t $
      feq_l t (λ is. drop t $ none refl (ap only e ∙ ap (λ (ws : List Val). live 0 (of_list ws)) is)))))
  by_option t X (Some x) v none some = fpick t (λ us. fsplit t $ feq_l t (λ e. fpick t (λ vss. fsplit t $
      feq_l t (λ is. fsplit t $ move t (1 ∷ []) $ drop t $ some x vss.0 refl (ap only e ∙
      ap (λ (ws : List Val). live 1 (of_list ws)) (is ∙ append-nil vss.0))))))

  -- A type whose values determine their machine values.
  pub by_told : K → (X : RattleType) (lowered : X.Denot → Val) →
      ((x : X.Denot) (vs : List Val) → Is X x vs → vs ≡ lowered x ∷ []) → (r : Option X.Denot) (v :
      Val) → (r ≡ None → v ≡ live 0 (of_list []) → Seq K 𝓛 Γ G)
      → ((x : X.Denot) → r ≡ Some x → v ≡ live 1 (of_list (lowered x ∷ [])) → Is X x (lowered x ∷ []) → Seq K 𝓛
      (‵ (X.own_val x (lowered x ∷ [])) ∷ Γ) G)
      → Seq K 𝓛 (‵ ((Opt.the_row X).own_val r (v ∷ [])) ∷ Γ) G
  by_told t X lowered told r v none some = by_option t X r v none
      (λ x vs is e. peeks t X _ (shows 𝓛 X) x vs (λ at. let same = told x vs at in
      rewrite t 0 (λ (us : List Val). ‵ (X.own_val x us)) same refl $
      some x is (e ∙ ap (λ (us : List Val). live 1 (of_list us)) same) (subst (Is X x) same at)))

  pub by_ref : K → (ℓ : Lifetime) (κ : Lft) (X : RattleType) (r : Option (MutBor X.Denot)) (v : Val) →
      (r ≡ None → v ≡ live 0 (of_list []) → Seq K 𝓛 Γ G)
      → ((x : MutBor X.Denot) → r ≡ Some x → v ≡ live 1 (of_list (mut_vals x)) → Seq K 𝓛
      (‵ ((MutRef ℓ κ X).own_val x (mut_vals x)) ∷ Γ) G)
      → Seq K 𝓛 (‵ ((Opt.the_row (MutRef ℓ κ X)).own_val r (v ∷ [])) ∷ Γ) G
  by_ref t ℓ κ X r v none some = by_told t (MutRef ℓ κ X) (λ x. vptr x.ref_ptr.0 x.ref_ptr.1) (λ x vs is. is.0) r v
      none (λ x is e _. some x is e)
