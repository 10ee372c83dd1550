-- A call of `split_at_mut` in a hand-written proof. Assumes `Logic`.
-- - splits: the slice is passed to the call, and its final value follows from those of its two parts.
-- - pointer_on, slice_on: a part is passed on.
-- - slice_fits, slices_fit, word_fits: the stored values are well typed.
-- - dropped, lets_go: an unused part keeps its current value.
-- - joins: the final slice, computed from the final values of both parts.
-- - both_end: the final slice is determined by both parts.
use Rattle.v_frame_buffer.proofs.Steps.{ℕ, ◌≡◌, ◌+◌, ◌^◌, ◌<◌, ◌≤◌, List, [], ◌∷◌, ◌++◌, length, take, list_drop, w64}
use Rattle.v_frame_buffer.proofs.Steps.{MutBor, refl, ap, Lft, Share, flft, SProp, id⊢, ◌⊑◌, Fun, fact, Array, usize}
use Rattle.v_frame_buffer.proofs.Steps.{shows, param, uint_vals, uint_Makes, RattleType, MutSlice, slice_val, heard}
use Rattle.v_frame_buffer.proofs.Steps.{only, owned, peeks, triple_of, Contract, named, Val, vcons, vnil, vstruct}
use Rattle.v_frame_buffer.proofs.Steps.{Memory, Routine, Ura, Item, Seq, ‵, raw, ◌$◌, drop, feq_l, fpick, fsplit, move}
use Rattle.v_frame_buffer.proofs.Steps.{rewrite, use1, group, Logic, ent, sep, fobs, ◌∵◌, qed, !, done, keep, fsplit3}
use Rattle.v_frame_buffer.proofs.Steps.{sem, Fml, both_by, follows_both, vint, vptr, Ty, ty_int, erased, mut, slice_ty}
use Rattle.v_frame_buffer.proofs.Steps.{tcons, tnil, ty_param, ty_ref, ty_struct, SameBelow, TailFrom, Triple, T}
use Rattle.v_frame_buffer.proofs.Steps.{Callee, Place, Opd as Operand, call, seq, Lifetime, WT, has_ty, Calls, Env}
use Rattle.v_frame_buffer.proofs.Steps.{Loops, FmC, Post, lands, regoal, runs, Opds, Part as Has, Rv, zero, addr_of}
use Rattle.v_frame_buffer.proofs.Steps.{aggregate, place, field, deref, copy, addr, agg, and_then, at, fld, from, hop}
use Rattle.v_frame_buffer.proofs.Steps.{fat, get, get_in, look_in_at, no_more, stop, sub, GName, Goal, Step, ◌⊛◌, prop}
use Rattle.v_frame_buffer.proofs.Steps.{split, each, assume, use3, wand}
use mathlib.Core.Option.{some}
use mir.Syntax.{Body}
use prog.Memory.{field_of}
use prog.Wp.{spot_of}
use denote.FollowSlice.{heres_id}
use Rattle.core.specs.contracts.slice.slice+T.split_at_mut
use Rattle.v_frame_plane.specs.FinalRows.{EndsAs}
use Rattle.v_frame_buffer.proofs.CallSteps.{asks_both, calls}
use Rattle.v_frame_buffer.proofs.Loans.{at_one}

-- A slice in the form that code has, and two slices, are well typed at any address if their lengths fit.
abbrev At : ℕ → Val
At n = vstruct (vcons (vptr 0 0) (vcons (vint w64 n) vnil))

abbrev Part : Ty
Part = slice_ty (ty_ref erased mut (ty_param 0))

pub slice_fits : {n : ℕ} → n < 2 ^ 64 → T (has_ty Part (At n)) × WT (At n)
slice_fits fits = (tt, (tt, (record { fits = fits }, tt)))

pub word_fits : {n : ℕ} → n < 2 ^ 64 → T (has_ty (ty_int w64) (vint w64 n)) × WT (vint w64 n)
word_fits fits = (tt, record { fits = fits })

pub slices_fit : {n k : ℕ} → n < 2 ^ 64 → k < 2 ^ 64 → let v = vstruct (vcons (At n) (vcons (At k) vnil)) in
    T (has_ty (ty_struct [] (tcons Part (tcons Part tnil))) v) × WT v
slices_fit one two = (tt, ((tt, (record { fits = one }, tt)), ((tt, (record { fits = two }, tt)), tt)))

-- The final whole is the final front followed by the final back.
abbrev pub Joins : (T : RattleType) → (whole front back : MutBor (List T.Denot)) → Fml
Joins T whole front back = follows_both (Array T 0) (Array T 0) (Array T 0) whole.ghost_name front.ghost_name
    back.ghost_name ◌++◌

-- The slice in part k of the value of local s is passed on: first its pointer, and then the slice at the pointer in
-- local j.
module _ {M : Type 1} {𝓤 : Ura M} {𝓛 : Logic 𝓤} {K : Type 0} {Γ : List (Item 𝓤)} {E : Env 𝓤 𝓛.H} {s k d b o n : ℕ}
    {q : Share} {back : Val → Item 𝓤} (t : K)
    (part : Has K 𝓛 (at 𝓛 s Γ) q Part (spot_of 𝓤 𝓛.H E s).1 (zero + d) (slice_val (b, o) n) back)
    (lies : field_of (spot_of 𝓤 𝓛.H E s).0 k ≡ some (Part, d)) where
  pub pointer_on : {τ : Ty} → Rv K 𝓛 Γ E (addr_of (place s (field k ∷ field 0 ∷ deref τ ∷ []))) (vptr b o)
  pointer_on = addr t (from t (fld t lies (fld t refl (hop t (look_in_at t s (sub t 0 refl part)) (stop t)))))

  pub slice_on : {j b' o' : ℕ} {r : Share} → at 𝓛 j Γ ≡ ‵
      (fat r (spot_of 𝓤 𝓛.H E j).0 (spot_of 𝓤 𝓛.H E j).1 zero (vptr b' o'))
      → Rv K 𝓛 Γ E (aggregate (copy (place j []) ∷ copy (place s (field k ∷ field 1 ∷ [])) ∷ [])) (slice_val (b', o') n)
  slice_on pointer = agg t (and_then t (get t pointer)
      (and_then t (get_in t (fld t lies (fld t refl (stop t))) (sub t 1 refl part)) (no_more t)))

module _ {M : Type 1} {𝓤 : Ura M} (𝓛 : Logic 𝓤) (at_mem : Memory → SProp 𝓤) (run : Routine → Fun 𝓤) (T : RattleType)
  where
    abbrev pub Split : Contract 𝓤
    Split = triple_of 𝓛 (split_at_mut.signature T) (split_at_mut.spec T 𝓛 at_mem run)

    abbrev pub asked : (κ κT : Lft) (q qT : Share) → κ ⊑ κT → MutBor (List T.Denot) → ℕ → Split.Ghost
    asked κ κT q qT inT x n = (
      (
        (κ, (κT, tt)),
        (q, (qT, tt)),
        (inT, tt),
        (x, (n, tt)),
        (slice_val x.ref_ptr (length x.now) ∷ [], (uint_vals w64 n, tt)),
      ),
      tt,
    )

module _ {M : Type 1} {𝓤 : Ura M} {𝓛 : Logic 𝓤} {K : Type 0} {Γ : List (Item 𝓤)} {E : Env 𝓤 𝓛.H} {C : Calls 𝓤 𝓛.H}
    {Λ : Loops 𝓤 𝓛.H} {f : Callee} {xs :
    List Operand} {d : Place} {rest : Body} {p : Post 𝓤 𝓛.H} where
  -- Everything up to the store of the two parts.
  pub splits : K → FmC 𝓤 𝓛.H 𝓛.laws C → (at_mem : Memory → SProp 𝓤) (run : Routine → Fun 𝓤) (T : RattleType) → Triple 𝓤
      (C f) (Split 𝓛 at_mem run T) →
      (κ κT : Lft) (q qT : Share) (inT : κ ⊑ κT) → κT ⊑ T.lives → (x : MutBor (List T.Denot)) (n : ℕ) → n < 2 ^ 64 → n
      ≤ length x.now
      → let S = Split 𝓛 at_mem run T in let y = asked 𝓛 at_mem run T κ κT q qT inT x n in
      let Slice = MutSlice (named 0) κ (param 0 T) in let held = λ (r : MutBor (List T.Denot)). slice_val r.ref_ptr
      (length r.now) in
      Opds K 𝓛 (raw (S.pre y) ∷ Γ) E xs (S.args y) →
      ((front back : MutBor (List T.Denot)) → front.now ≡ take n x.now → back.now ≡ list_drop n x.now → length
      front.now < 2 ^ 64 → length back.now < 2 ^ 64
      → Seq K 𝓛 (‵ (Slice.own_val front (held front ∷ [])) ∷ ‵ (Slice.own_val back (held back ∷ [])) ∷ ‵
      (Joins (param 0 T) x front back) ∷ ‵ (flft κ q) ∷
      ‵ (flft κT qT) ∷ Γ) (lands C Λ E d (vstruct (vcons (held front) (vcons (held back) vnil))) rest p))
      → Seq K 𝓛 (‵ (Slice.own_val x (held x ∷ [])) ∷ ‵ (flft κ q) ∷ ‵ (flft κT qT) ∷ Γ)
      (runs C Λ E (seq (call f xs d) rest) p)
  splits t fm at_mem run T met κ κT q qT inT lives x n fits h os k =
      let Slice = MutSlice (named 0) κ (param 0 T) in let held = λ (r : MutBor (List T.Denot)). slice_val r.ref_ptr
      (length r.now) in
      owned t usize _ (uint_Makes 𝓛 w64) n _ (refl, fits) $
      calls t (2 ∷ 3 ∷ 1 ∷ 0 ∷ []) fm (split_at_mut.ended T) (split_at_mut.clauses T 𝓛 at_mem run) met
      (asked 𝓛 at_mem run T κ κT q qT inT x n)
      (asks_both 𝓤 lives h) refl os (λ r ws. raw (fact 𝓤 (x.now ≡ r.0.now ++ r.1.now)) ∷ raw
      (fact 𝓤 (length r.0.now ≡ n)) ∷
      raw (fact 𝓤 (length r.1.now + n ≡ length x.now)) ∷ raw (fact 𝓤 (r.0.now ≡ take n x.now)) ∷ raw
      (fact 𝓤 (r.1.now ≡ list_drop n x.now)) ∷
      raw (fact 𝓤 (SameBelow x.now r.0.now n × TailFrom x.now r.1.now n)) ∷ ‵ (Joins (param 0 T) x r.0 r.1) ∷ [])
      (λ r ws. id⊢ 𝓤 _) (λ v r ws.
      fpick t (λ vss. fsplit t $ feq_l t (λ e. fsplit t $ move t (1 ∷ []) $ fsplit t $
      -- Context: [the back; nothing; the front; six facts; how the slice ends; the tokens; nothing, twice]
      peeks t Slice _ (shows 𝓛 Slice) r.1 vss.1.0 (λ two. rewrite t 0 (λ (us : List Val). ‵ (Slice.own_val r.1 us))
      two.0.0 refl $
      move t (2 ∷ []) $ peeks t Slice _ (shows 𝓛 Slice) r.0 vss.0
      (λ one. rewrite t 0 (λ (us : List Val). ‵ (Slice.own_val r.0 us)) one.0.0 refl $
      move t (6 ∷ 7 ∷ []) $ heard t _ (λ front. heard t _ (λ back.
      move t (2 ∷ 3 ∷ 4 ∷ 5 ∷ 6 ∷ 10 ∷ 11 ∷ []) $ group t 7 $ drop t $
      regoal t (λ (u : Val). lands C Λ E d u rest p) (rw (one.0.0, two.0.0) at (ap only e)) refl $
      k r.0 r.1 front back one.0.1.0 two.0.1.0)))))))

module _ {M : Type 1} {𝓤 : Ura M} (𝓛 : Logic 𝓤) (T : RattleType) where
  abbrev Ends : GName → List T.Denot → SProp 𝓤
  Ends γ xs = sem 𝓛 (EndsAs T γ xs)

  abbrev BothEnd : GName → GName → List T.Denot × List T.Denot → SProp 𝓤
  BothEnd γ γ' p = sep 𝓤 (Ends γ p.0) (Ends γ' p.1)

  -- A slice that is dropped keeps its current value.
  pub dropped : (ℓ : Lifetime) (κ : Lft) (x : MutBor (List T.Denot)) (vs : List Val) → ent 𝓤
      (sem 𝓛 ((MutSlice ℓ κ T).own_val x vs)) (Ends x.ghost_name x.now)
  dropped ℓ κ x vs = qed 𝓛 (‵ ((MutSlice ℓ κ T).own_val x vs) ∷ []) ∵ fsplit3 ! $ keep ! (1 ∷ []) $
      rewrite ! 0 (λ (xs : List T.Denot). ‵ (fobs x.ghost_name ((Array T 0).coded.code xs))) (heres_id T x.now) refl $
      use1 𝓛 (‵ (EndsAs T x.ghost_name x.now)) (𝓛.names.obs-res x.ghost_name ((Array T 0).coded.code x.now)) $ done !

-- The same lemmas as steps, with the names of the borrows as parameters.
module _ {M : Type 1} {𝓤 : Ura M} {𝓛 : Logic 𝓤} {K : Type 0} {Γ : List (Item 𝓤)} (t : K) (T : RattleType) where
  module _ {G : Goal 𝓤 𝓛.H} where
    pub lets_go : (κ : Lft) (x : MutBor (List T.Denot)) {vs : List Val} →
        Step K 𝓛 (‵ (EndsAs T x.ghost_name x.now) ∷ Γ) G (‵ ((MutSlice (named 0) κ T).own_val x vs) ∷ Γ) G
    lets_go κ x {vs} = use1 𝓛 (‵ (EndsAs T x.ghost_name x.now)) (dropped 𝓛 T (named 0) κ x vs)

    pub joins : {γ γ₁ γ₂ : GName} (xs ys : List T.Denot) → Step K 𝓛 (‵ (EndsAs T γ (xs ++ ys)) ∷ Γ) G
        (‵ (follows_both (Array T 0) (Array T 0) (Array T 0) γ γ₁ γ₂ ◌++◌) ∷ ‵ (EndsAs T γ₁ xs) ∷ ‵ (EndsAs T γ₂ ys) ∷
        Γ) G
    unfolding both_by
    joins {γ} {γ₁} {γ₂} xs ys = use3 𝓛 (‵ (EndsAs T γ (xs ++ ys)))
        (at_one 𝓛 (BothEnd 𝓛 T γ₁ γ₂) (λ p. Ends 𝓛 T γ (p.0 ++ p.1)) (xs, ys))

  pub both_end : (γ : GName) {γ₁ γ₂ : GName} (F : List T.Denot → List T.Denot → List T.Denot)
      → ((xs ys : List T.Denot) → Seq K 𝓛 (‵ (EndsAs T γ₁ xs) ∷ ‵ (EndsAs T γ₂ ys) ∷ Γ) (prop (Ends 𝓛 T γ (F xs ys))))
      → Seq K 𝓛 Γ (prop (sem 𝓛 (follows_both (Array T 0) (Array T 0) (Array T 0) γ γ₁ γ₂ F)))
  unfolding both_by
  both_end γ {γ₁} {γ₂} F k = each t (λ p. wand 𝓤 (BothEnd 𝓛 T γ₁ γ₂ p) (Ends 𝓛 T γ (F p.0 p.1))) (λ p.
      assume t (‵ (EndsAs T γ₁ p.0) ⊛ ‵ (EndsAs T γ₂ p.1)) $ split t $ k p.0 p.1)
