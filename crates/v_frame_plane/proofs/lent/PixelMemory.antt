-- The memory of an iterator that lends pixels, for the hand-written proofs of its `next` and `next_back`. Assumes
-- `Logic`.
-- - parts, pixels_owned: its resources, split into parts and joined again.
-- - front_out, rows_out, back_out: a field is taken out.
-- - field_in: the field is put back with another value.
-- - joins_pixels: its parts are joined again.
use Rattle.v_frame_buffer.proofs.Steps.{ℕ, ◌+◌, ◌^◌, ◌<◌, List, [], ◌∷◌, length, refl, fat, full_share, SProp, all, ent}
use Rattle.v_frame_buffer.proofs.Steps.{sep, wand, shows, param, Laws, param_laws, RattleType, Valss, NamedLft}
use Rattle.v_frame_buffer.proofs.Steps.{MutSlice, slice_ty, nothing, peeks, Ty, Tys, erased, mut, tcons, tnil, ty_param}
use Rattle.v_frame_buffer.proofs.Steps.{ty_ref, ty_struct, Val, vcons, vnil, vstruct, Ura, Goal, Item, Seq, Soaks, Step}
use Rattle.v_frame_buffer.proofs.Steps.{step, ‵, raw, ◌⊛◌, ◌$◌, ◌∵◌, !, qed, done, drop, feq_i, feq_l, fjoin, fpack}
use Rattle.v_frame_buffer.proofs.Steps.{fpick, fsplit, move, rewrite, split, use2, Logic, sem, shape, within, use1}
use Rattle.v_frame_buffer.proofs.Steps.{use3, size}
use Rattle.v_frame_plane.specs.contracts.pixels_mut.PixelsMut.{struct, the_row, the_type}
use Rattle.v_frame_plane.specs.contracts.rows_mut.RowsMut as rows_mut
use Rattle.v_frame_plane.specs.declared.pixels_mut.PixelsMut.{PixelsMut}
use Rattle.v_frame_buffer.proofs.Loans.{at_one}
use Rattle.v_frame_plane.proofs.lent.RowMemory.{slice_of, Bare as RowsBare, Named as RowsNamed, lowered as rows_lowered}
use Rattle.v_frame_plane.proofs.lent.Taken.{Slice, word}
use Rattle.v_frame_plane.proofs.rows_mut.RowsMut.TheLaws.{lowers as rows_lowers}

abbrev Fields : Tys
Fields = tcons word (tcons RowsBare (tcons word tnil))

-- The iterator as a machine value, from its fields.
abbrev pub whole : Val → Val → Val → Val
whole front rows back = vstruct (vcons front (vcons rows (vcons back vnil)))

-- The offsets of its rows and of its last field, in bytes.
abbrev pub rows_offset : ℕ
rows_offset = size word

abbrev pub back_offset : ℕ
back_offset = rows_offset + size RowsBare

abbrev pub lowered : {X : Type 0} → PixelsMut X → Val
lowered walk = whole (slice_of walk.front) (rows_lowered walk.rows) (slice_of walk.back)

-- The type of the iterator, in the machine and by name in the code.
abbrev pub Bare : Ty
Bare = ty_struct [] Fields

abbrev pub Named : (a : NamedLft) (T : RattleType) → Ty
Named a T = let part = slice_ty (ty_ref erased mut (ty_param 0)) in ty_struct (struct a T).name
    (tcons part (tcons (RowsNamed a T) (tcons part tnil)))

module _ {M : Type 1} {𝓤 : Ura M} (𝓛 : Logic 𝓤) (b o : ℕ) where
  abbrev Slot : Ty → ℕ → Val → SProp 𝓤
  Slot τ d u = 𝓛.H.at full_share τ b (o + d) u

  abbrev Whole : Val → SProp 𝓤
  Whole v = 𝓛.H.at full_share Bare b o v

  -- The cell without the field of this type at this offset. `put` computes the whole from a value of the field.
  abbrev pub Around : Ty → ℕ → (Val → Val) → SProp 𝓤
  Around τ d put = all 𝓤 (λ (u : Val). wand 𝓤 (Slot τ d u) (Whole (put u)))

  module _ (front rows back : Val) where
    pub front_out : ent 𝓤 (Whole (whole front rows back))
        (sep 𝓤 (Slot word 0 front) (Around word 0 (λ u. whole u rows back)))
    front_out = 𝓛.laws.at_field full_share [] Fields 0 word 0 refl b o (vcons front (vcons rows (vcons back vnil)))

    pub rows_out : ent 𝓤 (Whole (whole front rows back))
        (sep 𝓤 (Slot RowsBare rows_offset rows) (Around RowsBare rows_offset (λ u. whole front u back)))
    rows_out = 𝓛.laws.at_field full_share [] Fields 1 RowsBare rows_offset refl b o
        (vcons front (vcons rows (vcons back vnil)))

    pub back_out : ent 𝓤 (Whole (whole front rows back))
        (sep 𝓤 (Slot word back_offset back) (Around word back_offset (λ u. whole front rows u)))
    back_out = 𝓛.laws.at_field full_share [] Fields 2 word back_offset refl b o
        (vcons front (vcons rows (vcons back vnil)))

  pub field_in : (τ : Ty) (d : ℕ) (put : Val → Val) (v : Val) → ent 𝓤 (sep 𝓤 (Slot τ d v) (Around τ d put))
      (Whole (put v))
  field_in τ d put v = qed 𝓛 (‵ (fat full_share τ b (o + d) v) ∷ raw (Around τ d put) ∷ []) ∵ move ! (1 ∷ 0 ∷ []) $
      use2 𝓛 (‵ (fat full_share Bare b o (put v))) (at_one 𝓛 (Slot τ d) (λ u. Whole (put u)) v) $ done !

  -- The cell by its named type, and by its machine type.
  pub as_named : (a : NamedLft) (T : RattleType) (v : Val) → ent 𝓤 (Whole v) (𝓛.H.at full_share (Named a T) b o v)
  as_named a T v = 𝓛.laws.raw_at full_share (Named a T) b o v

  pub bare : (a : NamedLft) (T : RattleType) (v : Val) → ent 𝓤 (𝓛.H.at full_share (Named a T) b o v) (Whole v)
  bare a T v = 𝓛.laws.at_raw full_share (Named a T) b o v

-- The resources of an iterator, from the resources of its parts.
pub pixels_owned : {M : Type 1} {𝓤 : Ura M} (𝓛 : Logic 𝓤) (a : NamedLft) (T : RattleType) (walk : PixelsMut T.Denot) →
    let One = MutSlice a.mir a.lft T in
    ent 𝓤 (sep 𝓤 (sem 𝓛 (One.own_val walk.front (slice_of walk.front ∷ [])))
    (sep 𝓤 (sem 𝓛 ((rows_mut.the_row a T).own_val walk.rows (rows_lowered walk.rows ∷
    []))) (sem 𝓛 (One.own_val walk.back (slice_of walk.back ∷ [])))))
    (sem 𝓛 ((the_row a T).own_val walk (lowered walk ∷ [])))
pixels_owned 𝓛 a T walk =
    let One = MutSlice a.mir a.lft T in
    qed 𝓛 (‵ (One.own_val walk.front (slice_of walk.front ∷ [])) ∷
    (‵ ((rows_mut.the_row a T).own_val walk.rows (rows_lowered walk.rows ∷ [])) ⊛
    ‵ (One.own_val walk.back (slice_of walk.back ∷ []))) ∷ []) ∵
    move ! (1 ∷ []) $ split ! $ nothing ! $ move ! (2 ∷ 0 ∷ []) $ fjoin ! $ move ! (1 ∷ 0 ∷ []) $ fjoin ! $ move !
    (1 ∷ 0 ∷ []) $ fjoin ! $
    feq_i ! (List Val) (lowered walk ∷ []) (lowered walk ∷ []) refl $ fjoin ! $
    fpack ! (Valss (shape (the_type a T)).fields) (within (shape (the_type a T)) ((the_type a T).to walk)
    (lowered walk ∷ [])) (
      slice_of walk.front ∷ [],
      (rows_lowered walk.rows ∷ [], (slice_of walk.back ∷ [], tt)),
    ) $ done !

module _ {M : Type 1} {𝓤 : Ura M} {𝓛 : Logic 𝓤} {K : Type 0} {Γ : List (Item 𝓤)} {G : Goal 𝓤 𝓛.H} where
  -- Its parts are joined again.
  pub joins_pixels : K → (a : NamedLft) (T : RattleType) (b o : ℕ) (new : PixelsMut T.Denot) → let One = MutSlice a.mir
      a.lft (param 0 T) in
      Step K 𝓛 (‵ (fat full_share Bare b o (lowered new)) ∷ ‵ ((the_row a (param 0 T)).own_val new (lowered new ∷ []))
      ∷ Γ) G
      (‵ (One.own_val new.front (slice_of new.front ∷ [])) ∷ ‵
      ((rows_mut.the_row a (param 0 T)).own_val new.rows (rows_lowered new.rows ∷ [])) ∷
      ‵ (One.own_val new.back (slice_of new.back ∷ [])) ∷ ‵ (fat full_share (Named a (param 0 T)) b o (lowered new)) ∷
      Γ) G
  joins_pixels t a T b o new = step (λ k. use3 𝓛 (‵ ((the_row a (param 0 T)).own_val new (lowered new ∷ [])))
      (pixels_owned 𝓛 a (param 0 T) new) $
      move t (1 ∷ []) $ use1 𝓛 (‵ (fat full_share Bare b o (lowered new))) (bare 𝓛 b o a (param 0 T) (lowered new)) $ k)

  -- The resources of its parts, and the fact that their lengths fit.
  pub parts : K → Soaks G → (a : NamedLft) (T : RattleType) → Laws T → (walk : PixelsMut T.Denot) → let One = Slice T
      a.lft in
      (length walk.front.now < 2 ^ 64 → length walk.back.now < 2 ^ 64
      → Seq K 𝓛 (‵ (One.own_val walk.front (slice_of walk.front ∷ [])) ∷ ‵
      ((rows_mut.the_row a (param 0 T)).own_val walk.rows (rows_lowered walk.rows ∷ [])) ∷
      ‵ (One.own_val walk.back (slice_of walk.back ∷ [])) ∷ Γ) G)
      → Seq K 𝓛 (‵ ((the_row a (param 0 T)).own_val walk (lowered walk ∷ [])) ∷ Γ) G
  parts t z a T laws walk k =
      let One = Slice T a.lft in let Rows = rows_mut.the_row a (param 0 T) in
      fpick t (λ vss. fsplit t $ feq_l t (λ _. fsplit t $ peeks t One _ (shows 𝓛 One) walk.front vss.0
      (λ front. rewrite t 0 (λ (us :
      List Val). ‵ (One.own_val walk.front us)) front.0.0 refl $
      move t (1 ∷ []) $ fsplit t $ peeks t Rows _ (shows 𝓛 Rows) walk.rows vss.1.0 (λ rows. rewrite t 0 (λ (us :
      List Val). ‵ (Rows.own_val walk.rows us)) ((rows_lowers a (param 0 T) (param_laws 0 T laws)).val_is walk.rows
      vss.1.0 rows) refl $
      move t (1 ∷ []) $ fsplit t $ peeks t One _ (shows 𝓛 One) walk.back vss.1.1.0 (λ back. rewrite t 0 (λ (us :
      List Val). ‵ (One.own_val walk.back us)) back.0.0 refl $
      move t (1 ∷ []) $ drop t $ move t (2 ∷ 1 ∷ 0 ∷ []) $ k front.0.1.0 back.0.1.0)))))
