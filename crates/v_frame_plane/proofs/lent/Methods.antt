-- A method with `&mut self` of an iterator that lends, for hand-written proofs. Assumes `Logic`.
-- - Method: the method, as the logic describes it.
-- - ended, clauses, Met: its contract, and the fact that a function meets this contract.
-- - method: its compiled code, from its body and the types of its locals.
-- - in_order, set, gets, value: statements and their operands.
-- - meets_by: a function meets the contract if its code can be executed from self and the tokens.
-- - gives: the end of such an execution.
-- - calls_self: the method is called on a self in a cell. The cell is lent to the call and has the new self
--   afterwards.
use Rattle.v_frame_buffer.proofs.Steps.{ℕ, ◌≡◌, List, [], ◌∷◌, MutBor, refl, ap, Lft, Share, fat, flft, fobs, fbor}
use Rattle.v_frame_buffer.proofs.Steps.{full_share, SProp, ent, emp, sep, ◌⊑◌, ⊑_trans, meet_⊑_right, Fun, fact, tables}
use Rattle.v_frame_buffer.proofs.Steps.{mem, RattleType, MutRef, mut_vals, mut_Tells, plain, named_lft, NamedLft, Stays}
use Rattle.v_frame_buffer.proofs.Steps.{stay_ref, Goes-ref, walk_of, proved, yes, heard, only, closing, Clauses, Ended}
use Rattle.v_frame_buffer.proofs.Steps.{Meets, lone, AllOutlive, Lfts, Shares, Ty, named, Val, vptr, Ura, Item, Seq, Sq}
use Rattle.v_frame_buffer.proofs.Steps.{Step, step, mean, prop, ‵, raw, ◌⊛◌, ◌$◌, ◌∵◌, !, qed, drop, feq_i, fjoin3}
use Rattle.v_frame_buffer.proofs.Steps.{fsplit, keep, move, split, split3, use1, use2, Logic, Body, Go, MachineTables}
use Rattle.v_frame_buffer.proofs.Steps.{Running, Model, Closed, Callee, Fn, Local, Place, Opd as Operand, assign, call}
use Rattle.v_frame_buffer.proofs.Steps.{copy, local, place, seq, value_local, Calls, Env, Loops, FmC, Post, lands, runs}
use Rattle.v_frame_buffer.proofs.Steps.{and_then, no_more, ftrue, id⊢}
use denote.Lowered.{Lowered}
use denote.Signature.{mut_ref_to}
use mir.Raw.{raw as raw_ty}
use mir.Syntax.{Body as Code, Rv}
use prog.Wp.{WpFn}
use types.Run.{Opd}
use Rattle.v_frame_buffer.proofs.CallSteps.{asks_also, calls, ends, tokens}
pub use Rattle.v_frame_buffer.proofs.Statements.{gets, in_order, locals_of, set, value}
use Rattle.v_frame_buffer.proofs.Loans.{comes_back, lends, lft_over, share_within}
use base.Share

-- The code of the method.
abbrev pub method : Code → List Ty → Fn
method body types = record {
  lifetimes = 2;
  outlives = (1, 0) ∷ (2, 0) ∷ (2, 1) ∷ [];
  ty_params = [];
  givens = 0;
  params = 1;
  body = body;
  locals = locals_of types;
}

-- The types of self and of the result, for the lifetime of the loan; the lifetime that must outlive it; the
-- precondition; and the postcondition, which relates the old self, the result and the new self.
pub record Method {M : Type 1} (𝓤 : Ura M) : Type 2 where
  pub Self : NamedLft → RattleType
  pub Given : NamedLft → RattleType
  pub lives : Lft
  pub asks : (ℓ : NamedLft) → (Self ℓ).Denot → Item 𝓤
  pub says : (ℓ : NamedLft) → (Self ℓ).Denot → (Given ℓ).Denot → (Self ℓ).Denot → Item 𝓤

module _ {M : Type 1} {𝓤 : Ura M} (m : Method 𝓤) where
  -- The type of self at a caller's lifetimes: that of self, that of the loan, and that of T.
  abbrev row : Lfts 3 → RattleType
  row κs = m.Self (named_lft 3 1 tt κs)

  abbrev pub ended : Ended
  ended = record {
    signature = record {
      lifetimes = 3;
      outlives = record { long = 1; long_ok = tt; short = named 0; short_ok = tt } ∷ record
          { long = 2; long_ok = tt; short = named 0; short_ok = tt } ∷
          record { long = 2; long_ok = tt; short = named 1; short_ok = tt } ∷ [];
      params = mut_ref_to (0 ∷ []) tt (plain row) ∷ [];
      result = plain (λ κs. m.Given (named_lft 3 1 tt κs));
    };
    kept = (yes, tt);
  }

  abbrev stayed : Stays ended.signature.params ended.kept
  stayed = (stay_ref (0 ∷ []) tt (plain row), tt)

  abbrev Bounds : Lfts 3 → Type 0
  Bounds = AllOutlive 3 ended.signature.outlives

  module _ (𝓛 : Logic 𝓤) where
    abbrev pub clauses : Clauses 𝓤 ended
    clauses = λ κs a. record {
      ghost = Unit {0};
      requires = λ _. sep 𝓤 (fact 𝓤 (κs.1.1.0 ⊑ m.lives)) (mean 𝓛 (m.asks (named_lft 3 1 tt κs) a.0.now));
      ensures = λ _ r end. mean 𝓛 (m.says (named_lft 3 1 tt κs) a.0.now r end.0.now);
    }

    abbrev pub Met : Fun 𝓤 → Type 1
    Met run = Meets 𝓛 ended.signature run (closing 𝓛 ended clauses)

    abbrev pub Ends : (κs : Lfts 3) → Shares 3 → Bounds κs → MutBor (row κs).Denot → Val → SProp 𝓤
    Ends κs qs bounds self = (walk_of 𝓛 ended stayed clauses).post
        ((κs, qs, bounds, (self, tt), (mut_vals self, tt)), tt)

module _ {M : Type 1} {𝓤 : Ura M} (𝓛 : Logic 𝓤) (𝓜 : Model 𝓤 𝓛.H) (𝓡 : Running 𝓤 𝓛.H 𝓜) (m : Method 𝓤) where
  abbrev 𝓣 : MachineTables 𝓤 𝓛.H 𝓜
  𝓣 = tables 𝓤 𝓛.H 𝓜 𝓡 𝓡.env

  pub meets_by : (key : Callee) (function : Fn) → Closed 𝓤 𝓛.H 𝓣.C 𝓣.Λ key function
      → ((κs : Lfts 3) (qs : Shares 3) (bounds : Bounds m κs) (self : MutBor (row m κs).Denot) → κs.1.1.0 ⊑ m.lives →
      Sq 𝓛 (m.asks (named_lft 3 1 tt κs) self.now ∷ ‵ ((MutRef (named 0) κs.0 (row m κs)).own_val self (mut_vals self))
      ∷ tokens 3 κs qs [])
      (prop (WpFn 𝓤 𝓛.H 𝓣.C 𝓣.Λ function (mut_vals self) (Ends m 𝓛 κs qs bounds self)))) → Met m 𝓛 (𝓣.C key)
  meets_by key function closed walk =
      proved 𝓛 (ended m) (stayed m) (clauses m 𝓛) 𝓜 𝓡 (Goes-ref 𝓛 3 0 tt (plain (row m)), tt) key function closed
      (λ κs. (mut_vals, tt))
      (λ κs. (mut_Tells (named 0) κs.0 (row m κs), tt)) (λ κs qs bounds a g are.
      qed 𝓛 (((‵ (flft κs.0 qs.0) ⊛ ‵ (flft κs.1.0 qs.1.0) ⊛ ‵ (flft κs.1.1.0 qs.1.1.0) ⊛ ‵ ftrue) ⊛
      ‵ ((MutRef (named 0) κs.0 (row m κs)).own_val a.0 (mut_vals a.0)) ⊛ ‵ ftrue) ∷ raw (fact 𝓤 (κs.1.1.0 ⊑ m.lives)) ∷
      m.asks (named_lft 3 1 tt κs) a.0.now ∷ []) ∵
      move ! (1 ∷ []) $ heard ! _ (λ inT. split ! $ split ! $ move ! (1 ∷ []) $ split3 ! $ move ! (4 ∷ []) $ split ! $
      keep ! (6 ∷ 0 ∷ 5 ∷ 2 ∷ 3 ∷ []) $
      walk κs qs bounds a.0 inT))

module _ {M : Type 1} {𝓤 : Ura M} {𝓛 : Logic 𝓤} {Γ : List (Item 𝓤)} where
  -- Context: the result, self in two parts, the tokens.
  pub gives : Go {0} → (m : Method 𝓤) (κs : Lfts 3) (qs : Shares 3) (bounds : Bounds m κs)
      (self : MutBor (row m κs).Denot) (v : Val) →
      let ℓ = named_lft 3 1 tt κs in (r : (m.Given ℓ).Denot) (new : (row m κs).Denot)
      → Step (Go {0}) 𝓛 Γ (prop (mean 𝓛 (m.says ℓ self.now r new)))
      (‵ ((m.Given ℓ).own_val r (v ∷ [])) ∷ ‵ (fobs self.ghost_name ((row m κs).coded.code new)) ∷
      ‵ (fbor κs.0 (Body (mem (row m κs)) self.ref_ptr.0 self.ref_ptr.1 self.ghost_name)) ∷ tokens 3 κs qs Γ)
      (prop (Ends m 𝓛 κs qs bounds self v))
  gives t m κs qs bounds self v r new = step (λ k. move ! (1 ∷ 2 ∷ []) $ feq_i ! (List Val) (mut_vals self)
      (mut_vals self) refl $ fjoin3 ! $
      ends ! (2 ∷ 3 ∷ 4 ∷ 0 ∷ 1 ∷ []) (ended m) (stayed m) (clauses m 𝓛)
      ((κs, qs, bounds, (self, tt), (mut_vals self, tt)), tt) v r (new, tt) (tt, tt) refl $
      k)

module _ {M : Type 1} {𝓤 : Ura M} {𝓛 : Logic 𝓤} {K : Type 0} {Γ : List (Item 𝓤)} {E : Env 𝓤 𝓛.H} {C : Calls 𝓤 𝓛.H}
    {Λ : Loops 𝓤 𝓛.H} {p : Post 𝓤 𝓛.H} {f :
    Callee} {x : Operand} {d : Place} {rest : Code} where
  -- The type of the cell in the machine is τ.
  pub calls_self : K → FmC 𝓤 𝓛.H 𝓛.laws C → (m : Method 𝓤) → Met m 𝓛 (C f) → (κ κT : Lft) (q qT : Share) → κ ⊑ κT → κT
      ⊑ m.lives →
      let ℓ : NamedLft = record { mir = named 1; lft = κ } in let R = m.Self ℓ in
      (low : Lowered R) → R.mir ≡ lone R.mir ∷ [] → (τ : Ty) → raw_ty τ ≡ raw_ty (lone R.mir) → (old : R.Denot)
      (b o : ℕ) →
      ent 𝓤 (emp 𝓤) (mean 𝓛 (m.asks ℓ old)) → ((i j l : Item 𝓤) → Opd K 𝓛 (i ∷ j ∷ l ∷ Γ) E x (vptr b o)) →
      ((v : Val) (r : (m.Given ℓ).Denot) (new : R.Denot) → Seq K 𝓛
      (‵ (fat full_share τ b o (low.lowered new)) ∷ ‵ (R.own_val new (low.lowered new ∷ [])) ∷
      ‵ (flft κ q) ∷ ‵ (flft κT qT) ∷ ‵ ((m.Given ℓ).own_val r (v ∷ [])) ∷ m.says ℓ old r new ∷ Γ)
      (lands C Λ E d v rest p))
      → Seq K 𝓛 (‵ (fat full_share τ b o (low.lowered old)) ∷ ‵ (R.own_val old (low.lowered old ∷ [])) ∷ ‵ (flft κ q) ∷
      ‵ (flft κT qT) ∷ Γ)
      (runs C Λ E (seq (call f (x ∷ []) d) rest) p)
  calls_self t run m met κ κT q qT inside inT low one τ same old b o holds reads k =
      let ℓ : NamedLft = record { mir = named 1; lft = κ } in let R = m.Self ℓ in
      move t (2 ∷ []) $ use1 𝓛 (‵ (flft κ (Share.left q)) ⊛ ‵ (flft κ (Share.right q))) (𝓛.lfts.lft_split κ q) $ split
      t $ move t (2 ∷ 3 ∷ 0 ∷ []) $
      lends t tt R one τ same κ (Share.left q) old b o (low.lowered old)
      (λ α γ. let κc : Lft = α ∷ κ in let in_c = meet_⊑_right (α ∷ []) κ in
      let self : MutBor R.Denot = record { ref_ptr = (b, o); ghost_name = γ; now = old } in let κs : Lfts 3 =
      (κc, (κ, (κT, tt))) in
      let qs : Shares 3 = (share_within (Share.left q), (Share.right q, (qT, tt))) in
      let bounds : Bounds m κs = (in_c, (⊑_trans κc κ κT in_c inside, (inside, tt))) in
      -- Context: [the lent self; the lender's part; the token of the loan; the way back; the tokens of κ and κT]
      calls t (2 ∷ 4 ∷ 5 ∷ 0 ∷ []) run (ended m) (clauses m 𝓛) met
      ((κs, qs, bounds, (self, tt), (vptr b o ∷ [], tt)), tt) (asks_also 𝓤 inT holds) refl
      (and_then t (reads _ _ _) (no_more t)) (λ r ws. m.says ℓ old r ws.0 ∷ []) (λ r ws. id⊢ 𝓤 _)
      (λ v r ws. let new = ws.0 in
      -- Context: [the result; the clauses; the tokens of the loan, of κ and of κT; the last value; the lender's part;
      -- the way back]
      move t (2 ∷ 7 ∷ []) $ lft_over t tt α κ (Share.left q) $ move t (1 ∷ 4 ∷ []) $ use2 𝓛 (‵ (flft κ q))
      (𝓛.lfts.lft_join κ q) $
      move t (5 ∷ []) $ fsplit t $ move t (3 ∷ 7 ∷ 0 ∷ []) $
      comes_back t tt R one τ same κc γ b o new (low.lowered new) (λ u is. ap only (low.val_is new (u ∷ []) is)) $
      move t (2 ∷ []) $ drop t $ move t (0 ∷ 1 ∷ 2 ∷ 5 ∷ []) $ k v r new))
