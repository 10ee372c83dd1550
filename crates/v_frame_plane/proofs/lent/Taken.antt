-- A `&mut [T]` of the lifetime κ in a hand-written proof: the call that takes it out of its place, and the calls that
-- may yield one. Assumes `Logic`.
-- - calls_take: a call of `mem::take`. The place is lent to the call and holds an empty slice afterwards. The old
--   value is returned.
-- - by_row: the cases of a call of `next` or `next_back` of an iterator over lent rows, which may yield a row.
use Rattle.v_frame_buffer.proofs.Steps.{ℕ, ◌≡◌, List, [], ◌∷◌, length, w64, MutBor, refl, ap, ◌∙◌, Lft, Share, fat}
use Rattle.v_frame_buffer.proofs.Steps.{flent, flft, full_share, SProp, id⊢, ◌⊑◌, ⊑_trans, Fun, fact, shows, mem, param}
use Rattle.v_frame_buffer.proofs.Steps.{Laws, param_laws, RattleType, NamedLft, MutSlice, slice_val, heard, only, peeks}
use Rattle.v_frame_buffer.proofs.Steps.{triple_of, Contract, Ty, a_type, named, tcons, tnil, ty_int, ty_ptr, ty_struct}
use Rattle.v_frame_buffer.proofs.Steps.{Val, vptr, Memory, Routine, Ura, Item, Seq, ‵, raw, ◌⊛◌, ◌$◌, drop, fsplit}
use Rattle.v_frame_buffer.proofs.Steps.{move, rewrite, split, use1, use2, Logic, Body, no, ⊑_meet, ⊑_refl, meet_⊑_right}
use Rattle.v_frame_buffer.proofs.Steps.{Running, arg, bounded, layout, arg_laws, of_field, row_shared, mut_slice_shared}
use Rattle.v_frame_buffer.proofs.Steps.{mut_slice_laws, Triple, Callee, Place, Opd as Operand, call, seq, dcons, dnil}
use Rattle.v_frame_buffer.proofs.Steps.{Calls, Env, Loops, FmC, Post, lands, regoal, runs, Opds, Model, ◌^◌, ◌<◌, ◌++◌}
use Rattle.v_frame_buffer.proofs.Steps.{Option, Some, None, of_list, Goal, feq_l, fpick, live}
use denote.Struct.Field.{mut_slice_field}
use mir.Syntax.{Body as Code}
use prog.Wired.{Wired}
use Rattle.core.specs.contracts.slice.empty.RefMutSliceDefault.TheImpl.{ghosts, dict}
use Rattle.v_frame_buffer.proofs.CallSteps.{asks_that, calls, spelt}
use Rattle.v_frame_buffer.proofs.Slices.{slice_laws as laws_of_slice}
use Rattle.v_frame_buffer.proofs.Loans.{Back, comes_back, lends, lft_over, share_within}
use base.Share
use Rattle.std.specs.contracts.mem.take
use Rattle.std.specs.contracts.option.Option as Opt
use Rattle.core.proofs.mem.take.Met as take_met
use Rattle.core.proofs.mem.take.Symbol as take_code
use Rattle.core.proofs.slice.empty.RefMutSliceDefault.TheImpl.Met as default_met
use Rattle.core.proofs.slice.empty.RefMutSliceDefault.default.Symbol as default_code

-- A slice in the form that a place in memory has.
abbrev pub word : Ty
word = ty_struct [] (tcons ty_ptr (tcons (ty_int w64) tnil))

abbrev held : {X : Type 0} → MutBor (List X) → Val
held x = slice_val x.ref_ptr (length x.now)

module _ (T : RattleType) (κ : Lft) where
  abbrev pub Slice : RattleType
  Slice = MutSlice (named 1) κ (param 0 T)

  abbrev pub Taken : RattleType
  Taken = arg word no Slice

  abbrev element : RattleType
  element = arg (layout T) no (param 0 T)

  module _ (laws : Laws T) where
    abbrev slice_laws : Laws Slice
    slice_laws = laws_of_slice T κ laws

    abbrev taken_laws : Laws Taken
    taken_laws = arg_laws word no Slice slice_laws refl

module _ {M : Type 1} {𝓤 : Ura M} (𝓛 : Logic 𝓤) (at_mem : Memory → SProp 𝓤) (run : Routine → Fun 𝓤) (T : RattleType)
    (κ : Lft) where
  abbrev pub Take : Contract 𝓤
  Take = triple_of 𝓛 (take.signature (Taken T κ)) (take.spec (Taken T κ) (ghosts (element T κ)) (dict (element T κ)) 𝓛
      at_mem run)

  module _ (q : Share) (x : MutBor (List T.Denot)) (b o : ℕ) where
    abbrev pub asked : ℕ → ℕ → Take.Ghost
    asked α γ = let κ' : Lft = α ∷ κ in let s = share_within q in
        let place : MutBor (MutBor (List T.Denot)) = record { ref_ptr = (b, o); ghost_name = γ; now = x } in
        (((κ', (κ', tt)), (Share.left s, (Share.right s, tt)), (⊑_refl κ', tt), (place, tt), (vptr b o ∷ [], tt)), tt)

-- This function is `take`, at each lifetime.
abbrev pub IsTake : {M : Type 1} {𝓤 : Ura M} (𝓛 : Logic 𝓤) (at_mem : Memory → SProp 𝓤) (run : Routine → Fun 𝓤)
    (T : RattleType) → Fun 𝓤 → Type 1
IsTake {𝓤 = 𝓤} 𝓛 at_mem run T taking = (κ : Lft) → κ ⊑ T.lives → Triple 𝓤 taking (Take 𝓛 at_mem run T κ)

-- The call has the effect that `take` promises.
pub take_meets : {M : Type 1} {𝓤 : Ura M} (𝓛 : Logic 𝓤) (𝓜 : Model 𝓤 𝓛.H) (𝓡 : Running 𝓤 𝓛.H 𝓜) → Wired 𝓡.env
    take_code.code → Wired 𝓡.env default_code.code →
    (T : RattleType) (laws : Laws T) (κ : Lft) → κ ⊑ T.lives
    → Triple 𝓤 (𝓡.run (𝓡.env (take_code.name (bounded (a_type ∷ []) (Taken T κ, tt)
    (dcons (dict (element T κ)) dnil))))) (Take 𝓛 𝓜.mem 𝓡.returns T κ)
take_meets {M} {𝓤} 𝓛 𝓜 𝓡 takes defaults T laws κ inT =
    let element_laws : Laws (element T κ) = arg_laws (layout T) no (param 0 T) (param_laws 0 T laws) refl in
    take_met.met 𝓤 𝓛 𝓜 𝓡 takes (Taken T κ) (taken_laws T κ laws) (ghosts (element T κ)) (dict (element T κ))
    (record { default = (default_met.bound 𝓡.env defaults κ (element T κ) element_laws inT M 𝓤 𝓛 𝓜 𝓡).default })

module _ {M : Type 1} {𝓤 : Ura M} {𝓛 : Logic 𝓤} {K : Type 0} {Γ : List (Item 𝓤)} {E : Env 𝓤 𝓛.H} {C : Calls 𝓤 𝓛.H}
    {Λ : Loops 𝓤 𝓛.H} {f : Callee} {xs :
    List Operand} {d : Place} {rest : Code} {p : Post 𝓤 𝓛.H} where
  -- Everything up to the store of the old value. The place then holds an empty slice.
  pub calls_take : K → FmC 𝓤 𝓛.H 𝓛.laws C → (at_mem : Memory → SProp 𝓤) (run : Routine → Fun 𝓤) (T : RattleType)
      (κ : Lft) →
      Triple 𝓤 (C f) (Take 𝓛 at_mem run T κ) → (q : Share) (x : MutBor (List T.Denot)) (b o : ℕ) → κ ⊑ T.lives
      → let One = Slice T κ in
      ((α γ : ℕ) → let y = asked 𝓛 at_mem run T κ q x b o α γ in Opds K 𝓛 (raw ((Take 𝓛 at_mem run T κ).pre y) ∷
      ‵ (flent (α ∷ κ) (Body (mem (Taken T κ)) b o γ)) ∷ raw (Back 𝓛 α κ q) ∷ Γ) E xs ((Take 𝓛 at_mem run T κ).args y))
      →
      ((e : MutBor (List T.Denot)) → e.now ≡ []
      → Seq K 𝓛 (‵ (fat full_share word b o (slice_val e.ref_ptr 0)) ∷ ‵ (One.own_val e (slice_val e.ref_ptr 0 ∷ [])) ∷
      ‵ (One.own_val x (held x ∷ [])) ∷
      ‵ (flft κ q) ∷ Γ) (lands C Λ E d (held x) rest p))
      → Seq K 𝓛 (‵ (fat full_share word b o (held x)) ∷ ‵ (One.own_val x (held x ∷ [])) ∷ ‵ (flft κ q) ∷ Γ)
      (runs C Λ E (seq (call f xs d) rest) p)
  calls_take t fm at_mem run T κ met q x b o inT os k =
      let X = Taken T κ in let s = share_within q in
      lends t tt X refl word refl κ q x b o (held x) (λ α γ. let κ' : Lft = α ∷ κ in
      let within : κ' ⊑ X.lives = ⊑_meet κ' κ T.lives (meet_⊑_right (α ∷ []) κ)
      (⊑_trans κ' κ T.lives (meet_⊑_right (α ∷ []) κ) inT) in
      -- Context: [the lent place; the lender's part; the token of κ'; the way back to that of κ]
      move t (2 ∷ []) $ use1 𝓛 (‵ (flft κ' (Share.left s)) ⊛ ‵ (flft κ' (Share.right s))) (𝓛.lfts.lft_split κ' s) $
      split t $
      calls t (0 ∷ 1 ∷ 2 ∷ []) fm (take.ended X (ghosts (element T κ)) (dict (element T κ)))
      (take.clauses X (ghosts (element T κ)) (dict (element T κ)) 𝓛 at_mem run)
      met (asked 𝓛 at_mem run T κ q x b o α γ) (asks_that 𝓤 within) refl (os α γ)
      (λ r ws. raw (fact 𝓤 (r ≡ x)) ∷ raw (fact 𝓤 (ws.0.now ≡ [])) ∷ []) (λ r ws. id⊢ 𝓤 _) (λ v r ws.
      move t (1 ∷ 2 ∷ []) $ heard t _ (λ same. heard t _
      (λ empty. move t (1 ∷ 2 ∷ []) $ use2 𝓛 (‵ (flft κ' s)) (𝓛.lfts.lft_join κ' s) $
      -- Context: [the token of κ'; the old value; the last value lent, and its borrow; the lender's part; the way
      -- back to the token of κ]
      let e = ws.0 in
      move t (0 ∷ 4 ∷ []) $ lft_over t tt α κ q $ move t (3 ∷ []) $ fsplit t $
      move t (2 ∷ 5 ∷ 0 ∷ []) $ comes_back t tt X refl word refl κ' γ b o e (slice_val e.ref_ptr 0)
      (λ u holds. ap only holds.0.0 ∙
      ap (λ (xs : List T.Denot). slice_val e.ref_ptr (length xs)) empty) $
      -- Context: [the place; its resources; its borrow; the token of κ; the old value]
      move t (4 ∷ []) $ rewrite t 0 (λ (r : MutBor (List T.Denot)). ‵ ((Slice T κ).own_val r (v ∷ []))) same refl $
      spelt t (Slice T κ) held (λ r vs is. is.0.0) x v (λ is _. move t (3 ∷ []) $ drop t $ move t (1 ∷ 2 ∷ 0 ∷ []) $
      regoal t (λ (u : Val). lands C Λ E d u rest p) is refl $ k e empty)))))

module _ {M : Type 1} {𝓤 : Ura M} {𝓛 : Logic 𝓤} {K : Type 0} {Γ : List (Item 𝓤)} {G : Goal 𝓤 𝓛.H} where
  pub by_row : K → (T : RattleType) (κ : Lft) (r : Option (MutBor (List T.Denot))) (v : Val) →
      (r ≡ None → v ≡ live 0 (of_list []) → Seq K 𝓛 Γ G)
      → ((row : MutBor (List T.Denot)) → r ≡ Some row → v ≡ live 1 (of_list (held row ∷ [])) → length row.now < 2 ^ 64 →
      Seq K 𝓛 (‵ ((Slice T κ).own_val row (held row ∷ [])) ∷ Γ) G)
      → Seq K 𝓛 (‵ ((Opt.the_row (Slice T κ)).own_val r (v ∷ [])) ∷ Γ) G
  by_row t T κ None v without with = fpick t (λ us. fsplit t $ feq_l t (λ e. fpick t (λ vss. fsplit t $
      feq_l t (λ none. drop t $ without refl (ap only e ∙ ap (λ ws. live 0 (of_list ws)) none)))))
  by_row t T κ (Some row) v without with = let One = Slice T κ in
      fpick t (λ us. fsplit t $ feq_l t (λ e. fpick t (λ vss. fsplit t $ feq_l t (λ are. fsplit t $
      peeks t One _ (shows 𝓛 One) row vss.0 (λ is. rewrite t 0 (λ (ws : List Val). ‵ (One.own_val row ws)) is.0.0 refl $
      move t (1 ∷ []) $ drop t $ with row refl (ap only e ∙ ap (λ ws. live 1 (of_list ws))
      (are ∙ ap (λ ws. ws ++ []) is.0.0)) is.0.1.0)))))
