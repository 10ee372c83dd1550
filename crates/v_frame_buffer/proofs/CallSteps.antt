-- Steps of a hand-written proof at the entry of a function, at a call and at the return. The tokens of the lifetimes
-- and the resources of the parameters are separate entries of the context, in the order of the signature. A list of
-- positions tells a step where to find them. Assumes `Logic`.
-- - opened: the entry of the function.
-- - calls, calls_last: a call and its outcome: the result, the clauses, the tokens, and the final values.
-- - ends: the return.
-- - says, reported: a clause that is a fact, and a clause that is the last one.
use Rattle.v_frame_buffer.proofs.Steps.{ℕ, ◌≡◌, List, [], ◌∷◌, ◌++◌, refl, sym, ap, flft, SProp, emp, ent, sep, id⊢}
use Rattle.v_frame_buffer.proofs.Steps.{fact, fact_i, RattleType, Valss, Clauses, Lasts, at_exit, lasts, triple_of}
use Rattle.v_frame_buffer.proofs.Steps.{Stays, walk_of, Args, Val, Ura, Goal, Item, Seq, Soaks, Step, step, ‵, raw, ◌⊛◌}
use Rattle.v_frame_buffer.proofs.Steps.{some, later, prop, ◌$◌, await, drop, join, feq_i, fjoin, fsplit, move, only}
use Rattle.v_frame_buffer.proofs.Steps.{peeks, pick, rewrite, shows, split, use1, Logic, sem, Lfts, Shares, Lft, Bor}
use Rattle.v_frame_buffer.proofs.Steps.{◌-◌, zero, suc, subst, count_by, nat_lt, leaves, assoc∗, assoc', comm∗, emp∗}
use Rattle.v_frame_buffer.proofs.Steps.{fst∗, mono_l, mono_r, snd∗, via, toks, fact_use, top, Denots, RowLaws, owns}
use Rattle.v_frame_buffer.proofs.Steps.{left, Is, shr_dup, ShrRef, shr_vals, Signature, Slot, type_at, types_at}
use Rattle.v_frame_buffer.proofs.Steps.{calls_at, calls_at_last, Ended, closing, Kepts, Fins, lasts_of, Res, alive}
use Rattle.v_frame_buffer.proofs.Steps.{on_entry, Triple, Fit, has_of, T, Callee, Lifetime, Opd as Operand, Place, call}
use Rattle.v_frame_buffer.proofs.Steps.{seq, ty_unit, WT, has_ty, vunit, Calls, Env, Loops, FmC, ++⊢, Go, Post, by}
use Rattle.v_frame_buffer.proofs.Steps.{lands, mean, pop, push, runs, sel, sel⊢, settles, ⋆, Opds}
use contract.Monad.{Fun}
use denote.Triple.Entry.{Vals}
use mir.Syntax.{Body}

-- Positions in a list. Each is valid after the entries before it are taken out.
abbrev pub places : List ℕ → List ℕ → List ℕ
places seen [] = []
places seen (i ∷ π) = (i - count_by (λ j. nat_lt j i) seen) ∷ places (i ∷ seen) π

module _ {M : Type 1} {𝓤 : Ura M} where
  abbrev pub tokens : (n : ℕ) → Lfts n → Shares n → List (Item 𝓤) → List (Item 𝓤)
  tokens zero κs qs Γ = Γ
  tokens (suc n) κs qs Γ = ‵ (flft κs.0 qs.0) ∷ tokens n κs.1 qs.1 Γ

  abbrev pub arguments : (Rs : List RattleType) → Denots Rs → Valss Rs → List (Item 𝓤) → List (Item 𝓤)
  arguments [] a vss Γ = Γ
  arguments (R ∷ Rs) a vss Γ = ‵ (R.own_val a.0 vss.0) ∷ arguments Rs a.1 vss.1 Γ

  module _ {n : ℕ} (κs : Lfts n) where
    abbrev pub last_values : (ss : List (Slot n)) (ks : Kepts ss) (a : Denots (types_at ss κs)) → Fins κs ss ks a →
        List (Item 𝓤) → List (Item 𝓤)
    last_values [] ks a ws Γ = Γ
    last_values (s ∷ ss) ks a ws Γ = ‵ (left ((s.row κs).exit ks.0) a.0 ws.0) ∷ last_values ss ks.1 a.1 ws.1 Γ

    abbrev pub still_had : (ss : List (Slot n)) (ks : Kepts ss) → Stays ss ks → (a : Denots (types_at ss κs)) → Fins κs
        ss ks a → Valss (types_at ss κs) →
        List (Item 𝓤) → List (Item 𝓤)
    still_had [] ks hs a ws vss Γ = Γ
    still_had (s ∷ ss) ks hs a ws vss Γ = ‵ (hs.0.has κs a.0 ws.0 vss.0) ∷ still_had ss ks.1 hs.1 a.1 ws.1 vss.1 Γ

module _ {M : Type 1} {𝓤 : Ura M} (𝓛 : Logic 𝓤) where
  -- P consists of the first entries of Δ, and Γ is the rest of Δ.
  record Begins (P : SProp 𝓤) (Δ Γ : List (Item 𝓤)) : Type 1 where
    apart : ent 𝓤 (sep 𝓤 P (⋆ 𝓛 Γ)) (⋆ 𝓛 Δ)
    joined : ent 𝓤 (⋆ 𝓛 Δ) (sep 𝓤 P (⋆ 𝓛 Γ))

  none : (Γ : List (Item 𝓤)) → Begins (emp 𝓤) Γ Γ
  none Γ = record { apart = snd∗ 𝓤 (emp 𝓤) (⋆ 𝓛 Γ); joined = emp∗ 𝓤 (⋆ 𝓛 Γ) }

  one : (i : Item 𝓤) {Γ : List (Item 𝓤)} → Begins (mean 𝓛 i) (i ∷ Γ) Γ
  one i {Γ} = record { apart = push 𝓛 i Γ; joined = pop 𝓛 i Γ }

  both : {P Q : SProp 𝓤} {Δ Ξ Γ : List (Item 𝓤)} → Begins P Δ Ξ → Begins Q Ξ Γ → Begins (sep 𝓤 P Q) Δ Γ
  both {P} {Q} {Ξ = Ξ} {Γ = Γ} p q = record {
    apart = via 𝓤 (sep 𝓤 P (sep 𝓤 Q (⋆ 𝓛 Γ))) (assoc∗ 𝓤 P Q (⋆ 𝓛 Γ))
        (via 𝓤 (sep 𝓤 P (⋆ 𝓛 Ξ)) (mono_r 𝓤 P q.apart) p.apart);
    joined = via 𝓤 (sep 𝓤 P (⋆ 𝓛 Ξ)) p.joined (via 𝓤 (sep 𝓤 P (sep 𝓤 Q (⋆ 𝓛 Γ))) (mono_r 𝓤 P q.joined)
        (assoc' 𝓤 P Q (⋆ 𝓛 Γ)));
  }

  tokens_are : (n : ℕ) (κs : Lfts n) (qs : Shares n) (Γ : List (Item 𝓤)) → Begins (toks 𝓛 n κs qs) (tokens n κs qs Γ) Γ
  tokens_are zero κs qs Γ = none Γ
  tokens_are (suc n) κs qs Γ = both (one (‵ (flft κs.0 qs.0))) (tokens_are n κs.1 qs.1 Γ)

  arguments_are : (Rs : List RattleType) (a : Denots Rs) (vss : Valss Rs) (Γ : List (Item 𝓤)) → Begins
      (sem 𝓛 (owns Rs a vss)) (arguments Rs a vss Γ) Γ
  arguments_are [] a vss Γ = none Γ
  arguments_are (R ∷ Rs) a vss Γ = both (one (‵ (R.own_val a.0 vss.0))) (arguments_are Rs a.1 vss.1 Γ)

  module _ {n : ℕ} (κs : Lfts n) where
    last_values_are : (ss : List (Slot n)) (ks : Kepts ss) (a : Denots (types_at ss κs)) (ws : Fins κs ss ks a)
        (Γ : List (Item 𝓤)) →
        Begins (sem 𝓛 (lasts_of κs ss ks a ws)) (last_values κs ss ks a ws Γ) Γ
    last_values_are [] ks a ws Γ = none Γ
    last_values_are (s ∷ ss) ks a ws Γ = both (one (‵ (left ((s.row κs).exit ks.0) a.0 ws.0)))
        (last_values_are ss ks.1 a.1 ws.1 Γ)

    still_had_are : (ss : List (Slot n)) (ks : Kepts ss) (hs : Stays ss ks) (a : Denots (types_at ss κs))
        (ws : Fins κs ss ks a) (vss : Valss (types_at ss κs))
        (Γ : List (Item 𝓤)) → Begins (sem 𝓛 (has_of κs ss ks hs a ws vss)) (still_had κs ss ks hs a ws vss Γ) Γ
    still_had_are [] ks hs a ws vss Γ = none Γ
    still_had_are (s ∷ ss) ks hs a ws vss Γ = both (one (‵ (hs.0.has κs a.0 ws.0 vss.0)))
        (still_had_are ss ks.1 hs.1 a.1 ws.1 vss.1 Γ)

  module _ (S : Signature) (κs : Lfts S.lifetimes) (qs : Shares S.lifetimes) (a : Args S κs) (vss : Vals S κs) where
    abbrev pub Entered : List (Item 𝓤) → List (Item 𝓤)
    Entered Γ = tokens S.lifetimes κs qs (arguments (types_at S.params κs) a vss Γ)

    entry_is : (Γ : List (Item 𝓤)) → Begins (on_entry 𝓛 S κs qs a vss) (Entered Γ) Γ
    entry_is Γ = both (tokens_are S.lifetimes κs qs (arguments (types_at S.params κs) a vss Γ))
        (arguments_are (types_at S.params κs) a vss Γ)

    pub opened_by : (Φ : SProp 𝓤) (φ : Type 0) {P : SProp 𝓤} → ent 𝓤 Φ (fact 𝓤 φ) →
        (φ → Seq (Go {0}) 𝓛 (Entered []) (prop P))
        → ent 𝓤 (sep 𝓤 (on_entry 𝓛 S κs qs a vss) Φ) P
    opened_by Φ φ {P} shows s = let E = on_entry 𝓛 S κs qs a vss in fact_use 𝓤 φ (via 𝓤 Φ (snd∗ 𝓤 E Φ) shows) (λ holds.
        via 𝓤 (sep 𝓤 E (emp 𝓤)) (mono_r 𝓤 E (top 𝓤 Φ)) (via 𝓤 (⋆ 𝓛 (Entered [])) (entry_is []).apart (s holds).prf))

    -- For a `requires` that is one fact.
    pub opened : (φ : Type 0) {P : SProp 𝓤} → (φ → Seq (Go {0}) 𝓛 (Entered []) (prop P)) → ent 𝓤
        (sep 𝓤 (on_entry 𝓛 S κs qs a vss) (sep 𝓤 (fact 𝓤 φ) (emp 𝓤))) P
    opened φ = opened_by (sep 𝓤 (fact 𝓤 φ) (emp 𝓤)) φ (fst∗ 𝓤 (fact 𝓤 φ) (emp 𝓤))

  found : (Γ : List (Item 𝓤)) (π : List ℕ) (Θ : List (Item 𝓤)) → sel 𝓛 (places [] π) Γ ≡ Θ → ent 𝓤 (⋆ 𝓛 Γ) (⋆ 𝓛 Θ)
  found Γ π Θ at = subst (λ (Δ : List (Item 𝓤)). ent 𝓤 (⋆ 𝓛 Γ) (⋆ 𝓛 Δ)) at (sel⊢ 𝓛 (places [] π) Γ)

  -- The precondition and the outcome of a call, whose clauses are the entries `says`.
  module _ (T : Ended) (c : Clauses 𝓤 T) (x : (triple_of 𝓛 T.signature (closing 𝓛 T c)).Ghost) where
    abbrev S : Signature
    S = T.signature

    abbrev κs : Lfts S.lifetimes
    κs = x.0.0

    abbrev a : Args S κs
    a = x.0.3

    abbrev pub Asks : List (Item 𝓤) → List (Item 𝓤)
    Asks = Entered S κs x.0.1 a x.0.4

    abbrev pub Gives : (Res S κs → Lasts T κs a → List (Item 𝓤)) → Val → Res S κs → Lasts T κs a → List (Item 𝓤) → List
        (Item 𝓤)
    Gives says v r ws Γ = ‵ ((type_at S.result κs).own_val r (v ∷ [])) ∷
        (says r ws ++ tokens S.lifetimes κs x.0.1 (last_values κs S.params T.kept a ws Γ))

    abbrev pub Means : (Res S κs → Lasts T κs a → List (Item 𝓤)) → Type 1
    Means says = (r : Res S κs) (ws : Lasts T κs a) → ent 𝓤 ((c κs a).ensures x.1 r (at_exit T κs a ws))
        (⋆ 𝓛 (says r ws))

    asked : {K : Type 0} {G : Goal 𝓤 𝓛.H} {Γ Δ : List (Item 𝓤)} → K → (π : List ℕ) → ent 𝓤 (emp 𝓤)
        ((c κs a).requires x.1) → sel 𝓛 (places [] π) Γ ≡ Asks Δ
        → Step K 𝓛 (raw ((triple_of 𝓛 S (closing 𝓛 T c)).pre x) ∷ Δ) G Γ G
    asked {Γ = Γ} {Δ = Δ} t π met at = step (λ s. let E = on_entry 𝓛 S κs x.0.1 a x.0.4 in let R = (c κs a).requires
        x.1 in
        let asks = via 𝓤 _ (emp∗ 𝓤 E) (via 𝓤 _ (mono_l 𝓤 E met) (comm∗ 𝓤 R E)) in by t (via 𝓤 _ (found Γ π (Asks Δ) at)
        (via 𝓤 _ (entry_is S κs x.0.1 a x.0.4 Δ).joined
        (via 𝓤 _ (mono_l 𝓤 (⋆ 𝓛 Δ) asks) (via 𝓤 _ (push 𝓛 (raw (sep 𝓤 E R)) Δ) s.prf)))))

    module _ {K : Type 0} {G : Goal 𝓤 𝓛.H} (t : K) (z : Soaks G) (says : Res S κs → Lasts T κs a → List (Item 𝓤))
        (means : Means says) (v : Val) (Γ :
        List (Item 𝓤)) where
      given : ((r : Res S κs) (ws : Lasts T κs a) → Seq K 𝓛 (Gives says v r ws Γ) G) → Seq K 𝓛
          (raw ((triple_of 𝓛 S (closing 𝓛 T c)).post x v) ∷ Γ) G
      given k = let Says : Res S κs → Lasts T κs a → SProp 𝓤 = λ r ws. (c κs a).ensures x.1 r (at_exit T κs a ws) in
          use1 𝓛 (later (some (λ (r : Res S κs). (raw (alive 𝓛 S κs x.0.1) ⊛ ‵
          ((type_at S.result κs).own_val r (v ∷ []))) ⊛
          some (λ (ws : Lasts T κs a). ‵ (lasts T κs a ws) ⊛ raw (Says r ws))))) (id⊢ 𝓤 _) $
          await t z $ pick t (λ r. split t $ split t $ move t (2 ∷ []) $ pick t
          (λ ws. split t $ move t (2 ∷ 0 ∷ []) $ join t $ move t (2 ∷ 1 ∷ 0 ∷ []) $
          -- Context: [the result; the clauses; the tokens, and the last values]
          let rest = last_values κs S.params T.kept a ws Γ in let after = tokens S.lifetimes κs x.0.1 rest in
          let entries = via 𝓤 _ (pop 𝓛 _ Γ) (both (tokens_are S.lifetimes κs x.0.1 rest)
          (last_values_are κs S.params T.kept a ws Γ)).apart in
          let said = via 𝓤 _ (mono_r 𝓤 (Says r ws) entries)
          (via 𝓤 _ (mono_l 𝓤 (⋆ 𝓛 after) (means r ws)) (++⊢ 𝓛 (says r ws) after)) in
          let Own : Item 𝓤 = ‵ ((type_at S.result κs).own_val r (v ∷ [])) in
          by t (via 𝓤 _ (mono_r 𝓤 (mean 𝓛 Own) said) (via 𝓤 _ (push 𝓛 Own (says r ws ++ after)) (k r ws).prf))))

  -- A call of `run` whose operands are at π. The goal after the call is `after`.
  abbrev Called : (T : Ended) (c : Clauses 𝓤 T) (K : Type 0) (π : List ℕ) (Γ Δ : List (Item 𝓤)) (E : Env 𝓤 𝓛.H)
      (run : Fun 𝓤) (xs : List Operand)
      (after : Val → Goal 𝓤 𝓛.H) (G : Goal 𝓤 𝓛.H) → Type 2
  Called T c K π Γ Δ E run xs after G = let D = triple_of 𝓛 T.signature (closing 𝓛 T c) in Triple 𝓤 run D →
      (x : D.Ghost)
      → ent 𝓤 (emp 𝓤) ((c x.0.0 x.0.3).requires x.1) → sel 𝓛 (places [] π) Γ ≡ Asks T c x Δ → Opds K 𝓛
      (raw (D.pre x) ∷ Δ) E xs (D.args x)
      → (says : Res T.signature x.0.0 → Lasts T x.0.0 x.0.3 → List (Item 𝓤)) → Means T c x says
      → ((v : Val) (r : Res T.signature x.0.0) (ws : Lasts T x.0.0 x.0.3) → Seq K 𝓛 (Gives T c x says v r ws Δ)
      (after v)) → Seq K 𝓛 Γ G

module _ {M : Type 1} {𝓤 : Ura M} {𝓛 : Logic 𝓤} {K : Type 0} {Γ Δ : List (Item 𝓤)} where
  module _ {E : Env 𝓤 𝓛.H} {C : Calls 𝓤 𝓛.H} {Λ : Loops 𝓤 𝓛.H} {q : Post 𝓤 𝓛.H} {f : Callee} {xs : List Operand}
      {d : Place} (t : K) (π : List ℕ) (fm :
      FmC 𝓤 𝓛.H 𝓛.laws C) where
    pub calls : {rest : Body} (T : Ended) (c : Clauses 𝓤 T) → Called 𝓛 T c K π Γ Δ E (C f) xs
        (λ v. lands C Λ E d v rest q)
        (runs C Λ E (seq (call f xs d) rest) q)
    calls T c met x holds at os says means k = asked 𝓛 T c x t π holds at $
        calls_at t fm (triple_of 𝓛 T.signature (closing 𝓛 T c)) met x os (λ v. given 𝓛 T c x t tt says means v Δ (k v))

    pub calls_last : (T : Ended) (c : Clauses 𝓤 T) → Called 𝓛 T c K π Γ Δ E (C f) xs (λ v. settles E d v q)
        (runs C Λ E (call f xs d) q)
    calls_last T c met x holds at os says means k = asked 𝓛 T c x t π holds at $
        calls_at_last {Λ = Λ} t fm (triple_of 𝓛 T.signature (closing 𝓛 T c)) met x os
        (λ v. given 𝓛 T c x t tt says means v Δ (k v))

  pub ends : K → (π : List ℕ) (T : Ended) (hs : Stays T.signature.params T.kept) (c : Clauses 𝓤 T)
      (y : (walk_of 𝓛 T hs c).Ghost) (v : Val) (r :
      Res T.signature y.0.0) (ws : Lasts T y.0.0 y.0.3) → Fit T hs y.0.0 y.0.3 ws
      → sel 𝓛 (places [] π) Γ ≡ tokens T.signature.lifetimes y.0.0 y.0.1
      (still_had y.0.0 T.signature.params T.kept hs y.0.3 ws y.0.4
      (‵ ((type_at T.signature.result y.0.0).own_val r (v ∷ [])) ∷ Δ))
      → Step K 𝓛 Δ (prop ((c y.0.0 y.0.3).ensures y.1 r (at_exit T y.0.0 y.0.3 ws))) Γ
      (prop ((walk_of 𝓛 T hs c).post y v))
  ends t π T hs c y v r ws fits at = step (λ s. let S = T.signature in let κs = y.0.0 in let Own : Item 𝓤 = ‵
      ((type_at S.result κs).own_val r (v ∷ [])) in
      let rest = still_had κs S.params T.kept hs y.0.3 ws y.0.4 (Own ∷ Δ) in let all = tokens S.lifetimes κs y.0.1 rest
      in
      let had = via 𝓤 _ (still_had_are 𝓛 κs S.params T.kept hs y.0.3 ws y.0.4 (Own ∷ Δ)).joined
      (mono_r 𝓤 (sem 𝓛 (has_of κs S.params T.kept hs y.0.3 ws y.0.4))
      (via 𝓤 _ (pop 𝓛 Own Δ) (mono_r 𝓤 (mean 𝓛 Own) s.prf))) in
      let kept = via 𝓤 _ (tokens_are 𝓛 S.lifetimes κs y.0.1 rest).joined (mono_r 𝓤 (toks 𝓛 S.lifetimes κs y.0.1) had) in
      record { prf = via 𝓤 (⋆ 𝓛 all) (found 𝓛 Γ π all at) (via 𝓤 _ kept (leaves 𝓛 T hs c y v r ws fits)) })

-- Clauses that are facts.
module _ {M : Type 1} {𝓤 : Ura M} {𝓛 : Logic 𝓤} {K : Type 0} {Γ : List (Item 𝓤)} where
  pub tells : K → {φ : Type 0} {P : SProp 𝓤} → φ → Step K 𝓛 Γ (prop P) Γ (prop (sep 𝓤 (fact 𝓤 φ) P))
  tells t {φ} {P} holds = step (λ s. record {
    prf = via 𝓤 P s.prf
        (via 𝓤 (sep 𝓤 (emp 𝓤) P) (emp∗ 𝓤 P) (mono_l 𝓤 P (fact_i 𝓤 φ (emp 𝓤) holds)));
  })

  pub told : K → {φ : Type 0} → φ → Seq K 𝓛 Γ (prop (fact 𝓤 φ))
  told t {φ} holds = record { prf = fact_i 𝓤 φ (⋆ 𝓛 Γ) holds }

-- A `requires` that is a fact and more, one that is a single fact, and one that is two facts.
module _ {M : Type 1} (𝓤 : Ura M) {φ : Type 0} where
  pub asks_also : {P : SProp 𝓤} → φ → ent 𝓤 (emp 𝓤) P → ent 𝓤 (emp 𝓤) (sep 𝓤 (fact 𝓤 φ) P)
  asks_also {P} holds more = via 𝓤 P more (via 𝓤 (sep 𝓤 (emp 𝓤) P) (emp∗ 𝓤 P) (mono_l 𝓤 P (fact_i 𝓤 φ (emp 𝓤) holds)))

  pub asks_that : φ → ent 𝓤 (emp 𝓤) (sep 𝓤 (fact 𝓤 φ) (emp 𝓤))
  asks_that holds = asks_also holds (id⊢ 𝓤 (emp 𝓤))

  pub asks_both : {ψ : Type 0} → φ → ψ → ent 𝓤 (emp 𝓤) (sep 𝓤 (fact 𝓤 φ) (fact 𝓤 ψ))
  asks_both {ψ} x y = asks_also x (fact_i 𝓤 ψ (emp 𝓤) y)

-- Two facts are one fact.
pub both_facts : {M : Type 1} (𝓤 : Ura M) (φ ψ : Type 0) → ent 𝓤 (sep 𝓤 (fact 𝓤 φ) (fact 𝓤 ψ)) (fact 𝓤 (φ × ψ))
both_facts 𝓤 φ ψ = fact_use 𝓤 φ (fst∗ 𝓤 (fact 𝓤 φ) (fact 𝓤 ψ))
    (λ x. fact_use 𝓤 ψ (snd∗ 𝓤 (fact 𝓤 φ) (fact 𝓤 ψ)) (λ y. fact_i 𝓤 (φ × ψ) _ (x, y)))

-- The return value of a function without a result.
pub unit_fits : {v : Val} → v ∷ [] ≡ vunit ∷ [] → T (has_ty ty_unit v) × WT v
unit_fits is = subst (λ (x : Val). T (has_ty ty_unit x) × WT x) (sym (ap only is)) (tt, tt)

-- A `&` can be given away and kept.
module _ {M : Type 1} {𝓤 : Ura M} {𝓛 : Logic 𝓤} {K : Type 0} {Γ : List (Item 𝓤)} {G : Goal 𝓤 𝓛.H} where
  pub read_twice : K → (ℓ : Lifetime) (κ : Lft) (R : RattleType) → RowLaws R → (x : Bor R.Denot)
      → let Own : Item 𝓤 = ‵ ((ShrRef ℓ κ R).own_val x (shr_vals x)) in Step K 𝓛 (Own ∷ Own ∷ Γ) G (Own ∷ Γ) G
  read_twice t ℓ κ R shr x = step (λ k. fsplit t $ drop t $ shr_dup t R shr x.now x.ref_ptr.0 x.ref_ptr.1 κ $
      feq_i t (List Val) (shr_vals x) (shr_vals x) refl $ fjoin t $ move t (1 ∷ []) $ feq_i t (List Val) (shr_vals x)
      (shr_vals x) refl $ fjoin t $ k)

  -- A value whose type determines its machine value, written out.
  pub spelt : K → (R : RattleType) (lowered : R.Denot → Val) →
      ((x : R.Denot) (vs : List Val) → Is R x vs → vs ≡ lowered x ∷ []) → (x : R.Denot) (v : Val)
      → (v ≡ lowered x → Is R x (lowered x ∷ []) → Seq K 𝓛 (‵ (R.own_val x (lowered x ∷ [])) ∷ Γ) G) → Seq K 𝓛
      (‵ (R.own_val x (v ∷ [])) ∷ Γ) G
  spelt t R lowered spelled x v k = peeks t R _ (shows 𝓛 R) x (v ∷ []) (λ is. let e = spelled x (v ∷ []) is in
      rewrite t 0 (λ (vs : List Val). ‵ (R.own_val x vs)) e refl $ k (ap only e) (subst (Is R x) e is))
