-- The memory of an iterator that lends rows, for the hand-written proofs of its `next` and `next_back`. Assumes
-- `Logic`.
-- - takes_slice: a call of `take` on its slice.
-- - moved: the iterator after a call.
-- - bare, walk_owned: the parts from which it is joined again.
use Rattle.v_frame_buffer.proofs.Steps.{ℕ, ◌+◌, ◌^◌, ◌<◌, List, [], ◌∷◌, length, w64, MutBor, refl, Share, fat, flent}
use Rattle.v_frame_buffer.proofs.Steps.{flft, full_share, SProp, all, ent, wand, ◌⊑◌, Fun, usize, shows, mem, param}
use Rattle.v_frame_buffer.proofs.Steps.{uint_vals, uint_Makes, RattleType, Valss, NamedLft, MutSlice, slice_ty}
use Rattle.v_frame_buffer.proofs.Steps.{slice_val, nothing, owned, peeks, Ty, Tys, erased, mut, tcons, tnil, ty_int}
use Rattle.v_frame_buffer.proofs.Steps.{ty_param, ty_ref, ty_struct, Val, Vals, vcons, vint, vnil, vstruct, Memory}
use Rattle.v_frame_buffer.proofs.Steps.{Routine, Ura, Item, Seq, ‵, raw, ◌⊛◌, ◌$◌, ◌∵◌, !, qed, done, drop, feq_i}
use Rattle.v_frame_buffer.proofs.Steps.{feq_l, fjoin, fpack, fpick, fsplit, move, rewrite, split, use1, use2, Logic}
use Rattle.v_frame_buffer.proofs.Steps.{sem, Body, shape, within, Triple, Callee, Place, Opd as Operand, call, seq}
use Rattle.v_frame_buffer.proofs.Steps.{Calls, Env, Loops, FmC, Post, lands, runs, Opds, T, Fits, WT, has_ty}
use mir.Syntax.{Body as Code}
use Rattle.v_frame_plane.specs.Cursor.{RowsAreWithin}
use Rattle.v_frame_plane.specs.contracts.rows_mut.RowsMut.{struct, the_row, the_type}
use Rattle.v_frame_plane.specs.declared.rows_mut.RowsMut.{RowsMut}
pub use Rattle.v_frame_buffer.proofs.Slices.{slice_of}
use Rattle.v_frame_buffer.proofs.Loans.{Back, at_one}
use Rattle.v_frame_plane.proofs.lent.Taken.{Slice, Take, Taken, asked, calls_take, word}

-- The numbers of the iterator with these values of `start` and `count`, and the iterator as a machine value.
abbrev pub Numbers : Tys
Numbers = tcons (ty_int w64) (tcons (ty_int w64) (tcons (ty_int w64) (tcons (ty_int w64) tnil)))

abbrev pub numbers : {X : Type 0} → RowsMut X → (start count : ℕ) → Vals
numbers walk start count = vcons (vint w64 start) (vcons (vint w64 walk.width)
    (vcons (vint w64 walk.gap) (vcons (vint w64 count) vnil)))

abbrev pub lowered : {X : Type 0} → RowsMut X → Val
lowered walk = vstruct (vcons (slice_of walk.rest) (numbers walk walk.start walk.count))

-- The positions of its fields.
abbrev pub start_at : ℕ
start_at = 1

abbrev pub width_at : ℕ
width_at = 2

abbrev pub gap_at : ℕ
gap_at = 3

abbrev pub count_at : ℕ
count_at = 4

-- The type of the iterator, in the machine and by name in the code.
abbrev pub Bare : Ty
Bare = ty_struct [] (tcons word Numbers)

abbrev pub Named : (a : NamedLft) (T : RattleType) → Ty
Named a T = ty_struct (struct a T).name (tcons (slice_ty (ty_ref erased mut (ty_param 0))) Numbers)

-- The iterator after a call, with another slice, start and count.
abbrev pub moved : {X : Type 0} (walk : RowsMut X) (rest : MutBor (List X)) (start count : ℕ) →
    RowsAreWithin start walk.width walk.gap count (length rest.now) → RowsMut X
moved walk rest start count within =
    record { rest = rest; start = start; width = walk.width; gap = walk.gap; count = count; within = within }

-- The iterator is well typed in a cell: its numbers fit, and so does the length of its slice.
abbrev pub WellTyped : {X : Type 0} → RowsMut X → Type 0
WellTyped walk = T (has_ty Bare (lowered walk)) × WT (lowered walk)

module _ {X : Type 0} (walk : RowsMut X) (ok : WellTyped walk) where
  abbrev pub rest_fit : Fits w64 (length walk.rest.now)
  rest_fit = ok.1.0.1.0

  abbrev pub start_fit : Fits w64 walk.start
  start_fit = ok.1.1.0

  abbrev pub width_fit : Fits w64 walk.width
  width_fit = ok.1.1.1.0

  abbrev pub gap_fit : Fits w64 walk.gap
  gap_fit = ok.1.1.1.1.0

  abbrev pub count_fit : Fits w64 walk.count
  count_fit = ok.1.1.1.1.1.0

module _ {M : Type 1} {𝓤 : Ura M} (𝓛 : Logic 𝓤) (b o : ℕ) (ns : Vals) where
  abbrev Slot : Val → SProp 𝓤
  Slot u = 𝓛.H.at full_share word b (o + 0) u

  abbrev Whole : Val → SProp 𝓤
  Whole u = 𝓛.H.at full_share Bare b o (vstruct (vcons u ns))

  abbrev Around : SProp 𝓤
  Around = all 𝓤 (λ (u : Val). wand 𝓤 (Slot u) (Whole u))

  pub bare : (a : NamedLft) (T : RattleType) (v : Val) → ent 𝓤
      (𝓛.H.at full_share (Named a T) b o (vstruct (vcons v ns))) (Whole v)
  bare a T v = 𝓛.laws.at_raw full_share (Named a T) b o (vstruct (vcons v ns))

-- The resources of an iterator after a call, from the resources of its slice.
pub walk_owned : {M : Type 1} {𝓤 : Ura M} (𝓛 : Logic 𝓤) (a : NamedLft) (T : RattleType) (old : RowsMut T.Denot) →
    WellTyped old →
    (rest : MutBor (List T.Denot)) (start count : ℕ)
    (inside : RowsAreWithin start old.width old.gap count (length rest.now)) → start < 2 ^ 64 →
    count < 2 ^ 64 → let walk = moved old rest start count inside in
    ent 𝓤 (sem 𝓛 ((MutSlice a.mir a.lft T).own_val rest (slice_of rest ∷ [])))
    (sem 𝓛 ((the_row a T).own_val walk (lowered walk ∷ [])))
walk_owned 𝓛 a T old ok rest start count inside s c =
    let walk = moved old rest start count inside in let w = (width_fit old ok).fits in let g = (gap_fit old ok).fits in
    qed 𝓛 (‵ ((MutSlice a.mir a.lft T).own_val walk.rest (slice_of walk.rest ∷ [])) ∷ []) ∵
    nothing ! $ owned ! usize _ (uint_Makes 𝓛 w64) walk.count _ (refl, c) $ fjoin ! $ owned ! usize _
    (uint_Makes 𝓛 w64) walk.gap _ (refl, g) $ fjoin ! $
    owned ! usize _ (uint_Makes 𝓛 w64) walk.width _ (refl, w) $ fjoin ! $ owned ! usize _ (uint_Makes 𝓛 w64) walk.start
    _ (refl, s) $ fjoin ! $
    move ! (1 ∷ 0 ∷ []) $ fjoin ! $
    feq_i ! (List Val) (lowered walk ∷ []) (lowered walk ∷ []) refl $ fjoin ! $
    fpack ! (Valss (shape (the_type a T)).fields) (within (shape (the_type a T)) ((the_type a T).to walk)
    (lowered walk ∷ [])) (
      slice_of walk.rest ∷ [],
      (uint_vals w64 walk.start, (uint_vals w64 walk.width, (uint_vals w64 walk.gap, (uint_vals w64 walk.count, tt)))),
    ) $ done !

module _ {M : Type 1} {𝓤 : Ura M} {𝓛 : Logic 𝓤} {K : Type 0} {Γ : List (Item 𝓤)} {E : Env 𝓤 𝓛.H} {C : Calls 𝓤 𝓛.H}
    {Λ : Loops 𝓤 𝓛.H} {f : Callee} {xs :
    List Operand} {d : Place} {rest : Code} {p : Post 𝓤 𝓛.H} where
  -- A call of `take` on its slice: the iterator with another slice in its field, the old slice, and the token.
  pub takes_slice : K → FmC 𝓤 𝓛.H 𝓛.laws C → (at_mem : Memory → SProp 𝓤) (run : Routine → Fun 𝓤) (T : RattleType)
      (a : NamedLft) →
      Triple 𝓤 (C f) (Take 𝓛 at_mem run T a.lft) → (q : Share) (walk : RowsMut T.Denot) (b o : ℕ) (ns : Vals) → a.lft ⊑
      T.lives
      → ((α γ : ℕ) → let y = asked 𝓛 at_mem run T a.lft q walk.rest b (o + 0) α γ in Opds K 𝓛
      (raw ((Take 𝓛 at_mem run T a.lft).pre y) ∷
      ‵ (flent (α ∷ a.lft) (Body (mem (Taken T a.lft)) b (o + 0) γ)) ∷ raw (Back 𝓛 α a.lft q) ∷ raw (Around 𝓛 b o ns) ∷
      Γ) E xs
      ((Take 𝓛 at_mem run T a.lft).args y))
      → ((e : MutBor (List T.Denot)) → length walk.rest.now < 2 ^ 64
      → Seq K 𝓛 (‵ (fat full_share (Named a (param 0 T)) b o (vstruct (vcons (slice_val e.ref_ptr 0) ns))) ∷
      ‵ ((Slice T a.lft).own_val walk.rest (slice_of walk.rest ∷ [])) ∷ ‵ (flft a.lft q) ∷ Γ)
      (lands C Λ E d (slice_of walk.rest) rest p))
      → Seq K 𝓛 (‵ (fat full_share Bare b o (vstruct (vcons (slice_of walk.rest) ns))) ∷ ‵
      ((the_row a (param 0 T)).own_val walk (lowered walk ∷ [])) ∷
      ‵ (flft a.lft q) ∷ Γ) (runs C Λ E (seq (call f xs d) rest) p)
  takes_slice t fm at_mem run T a met q walk b o ns inT os k =
      let One = Slice T a.lft in let held = slice_of walk.rest in
      move t (1 ∷ []) $ fpick t (λ vss. fsplit t $ feq_l t
      (λ _. fsplit t $ peeks t One _ (shows 𝓛 One) walk.rest vss.0 (λ its. rewrite t 0 (λ (us :
      List Val). ‵ (One.own_val walk.rest us)) its.0.0 refl $
      move t (1 ∷ []) $ drop t $ move t (1 ∷ []) $ use1 𝓛 (‵ (fat full_share word b (o + 0) held) ⊛
      raw (Around 𝓛 b o ns)) (𝓛.laws.at_field full_share [] (tcons word Numbers) 0 word 0 refl b o (vcons held ns)) $
      split t $
      -- Context: [the field; the way back; the slice; the token]
      move t (0 ∷ 2 ∷ 3 ∷ []) $ calls_take t fm at_mem run T a.lft met q walk.rest b (o + 0) inT os (λ e _.
      -- Context: [the field; its new resources; the slice; the token; the way back]
      let walk' = vstruct (vcons (slice_val e.ref_ptr 0) ns) in
      move t (1 ∷ []) $ drop t $ move t (3 ∷ 0 ∷ []) $
      use2 𝓛 (‵ (fat full_share Bare b o walk')) (at_one 𝓛 (Slot 𝓛 b o ns) (Whole 𝓛 b o ns) (slice_val e.ref_ptr 0)) $
      use1 𝓛 (‵ (fat full_share (Named a (param 0 T)) b o walk'))
      (𝓛.laws.raw_at full_share (Named a (param 0 T)) b o walk') $ k e its.0.1.0))))
