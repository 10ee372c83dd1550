-- The end of an iterator that lends pixels at which a function works, in code, in memory and in contracts. With these
-- definitions, one proof covers the functions of both ends. Assumes `Logic`.
-- - near_len, near_fits: the length of the begun row at this end, as code reads it from self, and the fact that it
--   fits.
-- - near_place, near_part, near_out, far_out: the field of this end in code, in the cell of self, and taken out of
--   it.
-- - whole_by, by_sides: self as a machine value, from its parts as seen from this end.
-- - sides, joins_by: self split into its parts, and joined again.
-- - cut_clauses, row_draw, pixel_draw, pixel_of_row: the contracts of the functions of this end.
use Rattle.v_frame_buffer.proofs.Steps.{ℕ, ◌≡◌, ◌+◌, ◌^◌, ◌<◌, List, [], ◌∷◌, length, MutBor, ⊤, MakesProgress}
use Rattle.v_frame_buffer.proofs.Steps.{item_count, Share, Step, step, !, refl, ◌$◌, move, Array, Laws, MutSlice}
use Rattle.v_frame_buffer.proofs.Steps.{NamedLft, Goal, Seq, Soaks, follows_both, full_share, fat, ftrue, ent, sep}
use Rattle.v_frame_buffer.proofs.Steps.{fact, ◌⊑◌, param, RattleType, Clauses, Ty, Val, vptr, vint, w64, Ura, Item, ‵}
use Rattle.v_frame_buffer.proofs.Steps.{Logic, sem, sub, fld, look_in, load, of_opd, stop, through, erased, mut}
use Rattle.v_frame_buffer.proofs.Steps.{slice_ty, tcons, tnil, ty_param, ty_ref, ty_struct, T, Sym, deref, field, place}
use Rattle.v_frame_buffer.proofs.Steps.{copy, rv_opd, Fits, WT, has_ty, Env, at, Go, nth, Part, Finds, Rv, raw, ◌⊛◌}
use Rattle.v_frame_buffer.proofs.Steps.{MutRef}
use Rattle.v_frame_plane.proofs.lent.PixelMemory.{Around, Bare, Named, back_out, joins_pixels, front_out, lowered}
use Rattle.v_frame_plane.proofs.lent.PixelMemory.{parts, whole}
use Rattle.v_frame_plane.proofs.lent.Sides.{Side, at_front, at_back, at_side, slot, other, offset, near, far, put}
use Rattle.v_frame_plane.proofs.lent.Sides.{Countable, walk_by, Yields, YieldsRow}
use Rattle.v_frame_plane.proofs.lent.Sides.{LendsRow, Lends, Steps, Takes, by_side}
use Rattle.v_frame_plane.specs.{PixelsLeft.pixels_left, RowsLeft.rows_left, contracts.pixels_mut.PixelsMut.the_row}
use Rattle.v_frame_plane.specs.{declared.pixels_mut.PixelsMut.PixelsMut, declared.rows_mut.RowsMut.RowsMut}
use Rattle.v_frame_plane.proofs.lent.{Methods.Method, RowMemory.Numbers, RowMemory.lowered as rows_lowered}
use Rattle.v_frame_plane.proofs.lent.{RowMemory.slice_of, Taken.Slice, Taken.word}
use Rattle.std.specs.contracts.option.Option as Opt
use Rattle.v_frame_plane.specs.contracts.pixels_mut.cut_first
use Rattle.v_frame_plane.specs.contracts.rows_mut.RowsMut as rows_mut

-- Self as a machine value, from its field at this end, its rows and its field at the other end.
abbrev pub whole_by : Side → Val → Val → Val → Val
whole_by s near rows far = whole (at_side s near far) rows (at_side s far near)

pub near_fits : (s : Side) {X : Type 0} (walk : PixelsMut X) → T (has_ty Bare (lowered walk)) × WT (lowered walk) →
    Fits w64 (length (near s walk).now)
near_fits s walk ok = by_side (λ e. Fits w64 (length (near e walk).now)) ok.1.0.1.0 ok.1.1.1.0.1.0 s

module _ {M : Type 1} {𝓤 : Ura M} (𝓛 : Logic 𝓤) (T : RattleType) (s : Side) where
  abbrev pub cut_clauses : Clauses 𝓤 (cut_first.ended T)
  cut_clauses = λ κs a. record {
    ghost = Unit {0};
    requires = λ _. sep 𝓤 (fact 𝓤 (κs.1.0 ⊑ T.lives)) (fact 𝓤 (0 < length a.0.now));
    ensures = λ _ r end. let Slices = Array (param 0 T) 0 in
        sep 𝓤 (sem 𝓛 (follows_both Slices (param 0 T) Slices a.0.ghost_name r.0.ghost_name r.1.ghost_name (put s)))
        (fact 𝓤 (a.0.now ≡ put s r.0.now r.1.now));
  }

-- The methods of this end, for rows and for pixels.
module _ {M : Type 1} (𝓤 : Ura M) (T : RattleType) (s : Side) where
  abbrev pub row_draw : Method 𝓤
  row_draw = record {
    Self = λ ℓ. rows_mut.the_row ℓ (param 0 T);
    Given = λ ℓ. Opt.the_row (MutSlice ℓ.mir ℓ.lft (param 0 T));
    lives = T.lives;
    asks = λ _ _. ‵ ftrue;
    says = λ _ old row new. ‵ (LendsRow s (param 0 T) old row new) ⊛ raw (fact 𝓤 (YieldsRow s old row new)) ⊛
        raw (fact 𝓤 (MakesProgress (λ _. ⊤) (item_count rows_left) old row new));
  }

  abbrev pub pixel_draw : Method 𝓤
  pixel_draw = record {
    Self = λ ℓ. the_row ℓ (param 0 T);
    Given = λ ℓ. Opt.the_row (MutRef ℓ.mir ℓ.lft (param 0 T));
    lives = T.lives;
    asks = λ _ _. ‵ ftrue;
    says = λ _ old pixel new. ‵ (Lends s (param 0 T) old pixel new) ⊛ raw (fact 𝓤 (Yields s old pixel new)) ⊛
        raw (fact 𝓤 (MakesProgress (λ _. ⊤) (item_count pixels_left) old pixel new));
  }

  -- The method for a begun row at this end that has a pixel.
  abbrev pub pixel_of_row : Method 𝓤
  pixel_of_row = record {
    Self = λ ℓ. the_row ℓ (param 0 T);
    Given = λ ℓ. MutRef ℓ.mir ℓ.lft (param 0 T);
    lives = T.lives;
    asks = λ _ walk. raw (fact 𝓤 (0 < length (near s walk).now));
    says = λ _ old pixel new. ‵ (Takes s (param 0 T) old pixel new) ⊛ raw (fact 𝓤 (Steps s old pixel new));
  }

-- A slice, and self behind a reference, by the names that self and its rows have in the code.
abbrev pub part : Ty
part = slice_ty (ty_ref erased mut (ty_param 0))

abbrev pub Walk : Sym → Sym → Ty
Walk ν ρ = ty_struct ν (tcons part (tcons (ty_struct ρ (tcons part Numbers)) (tcons part tnil)))

module _ {M : Type 1} {𝓤 : Ura M} {𝓛 : Logic 𝓤} {Γ : List (Item 𝓤)} {result self : Ty × ℕ} {locals : Env 𝓤 𝓛.H} where
  pub near_len : Go {0} → (s : Side) {X : Type 0} (walk : PixelsMut X) {ν ρ : Sym} {q p : Share} {b o : ℕ}
      {back : Val → Item 𝓤} →
      at 𝓛 1 Γ ≡ ‵ (fat p self.0 self.1 0 (vptr b o)) → Part (Go {0}) 𝓛 (nth 𝓛 0 Γ) q Bare b o (lowered walk) back →
      Rv (Go {0}) 𝓛 Γ (result ∷ self ∷ locals) (rv_opd
      (copy (place 1 (deref (Walk ν ρ) ∷ field (slot s) ∷ field 1 ∷ []))))
      (vint w64 (length (near s walk).now))
  near_len t at_front walk here cell =
      of_opd ! (load ! (through ! here (fld ! refl (fld ! refl (stop !))))
      (look_in ! 0 (sub ! 1 refl (sub ! 0 refl cell))))
  near_len t at_back walk here cell =
      of_opd ! (load ! (through ! here (fld ! refl (fld ! refl (stop !))))
      (look_in ! 0 (sub ! 1 refl (sub ! 2 refl cell))))

  -- The field at this end, and this field in its cell.
  pub near_place : Go {0} → (s : Side) {ν ρ : Sym} {p : Share} {b o : ℕ} → at 𝓛 1 Γ ≡ ‵
      (fat p self.0 self.1 0 (vptr b o)) →
      Finds (Go {0}) 𝓛 Γ (result ∷ self ∷ locals) (place 1 (deref (Walk ν ρ) ∷ field (slot s) ∷ []))
      (part, b, o + offset s)
  near_place t at_front here = through ! here (fld ! refl (stop !))
  near_place t at_back here = through ! here (fld ! refl (stop !))

module _ {M : Type 1} {𝓤 : Ura M} {𝓛 : Logic 𝓤} where
  pub near_part : Go {0} → (s : Side) (a : NamedLft) (T : RattleType) {i : Item 𝓤} {q : Share} {b o : ℕ}
      (near rows far : Val) {back : Val → Item 𝓤} →
      Part (Go {0}) 𝓛 i q (Named a T) b o (whole_by s near rows far) back → Part (Go {0}) 𝓛 i q part b (o + offset s)
      near (λ u. back (whole_by s u rows far))
  near_part t at_front a T near rows far cell = sub ! 0 refl cell
  near_part t at_back a T near rows far cell = sub ! 2 refl cell

-- Self as a machine value with these rows.
pub by_sides : {X : Type 0} (s : Side) (walk : PixelsMut X) (rows : Val) → whole (slice_of walk.front) rows
    (slice_of walk.back) ≡
    whole_by s (slice_of (near s walk)) rows (slice_of (far s walk))
by_sides at_front walk rows = refl
by_sides at_back walk rows = refl

module _ {M : Type 1} {𝓤 : Ura M} (𝓛 : Logic 𝓤) (b o : ℕ) (near rows far : Val) where
  pub near_out : (s : Side) → ent 𝓤 (𝓛.H.at full_share Bare b o (whole_by s near rows far))
      (sep 𝓤 (𝓛.H.at full_share word b (o + offset s) near)
      (Around 𝓛 b o word (offset s) (λ u. whole_by s u rows far)))
  near_out at_front = front_out 𝓛 b o near rows far
  near_out at_back = back_out 𝓛 b o far rows near

  pub far_out : (s : Side) → ent 𝓤 (𝓛.H.at full_share Bare b o (whole_by s near rows far))
      (sep 𝓤 (𝓛.H.at full_share word b (o + offset (other s)) far)
      (Around 𝓛 b o word (offset (other s)) (λ u. whole_by s near rows u)))
  far_out at_front = back_out 𝓛 b o near rows far
  far_out at_back = front_out 𝓛 b o far rows near

module _ {M : Type 1} {𝓤 : Ura M} {𝓛 : Logic 𝓤} {K : Type 0} {Γ : List (Item 𝓤)} {G : Goal 𝓤 𝓛.H} where
  pub sides : K → Soaks G → (s : Side) (a : NamedLft) (T : RattleType) → Laws T → (walk : PixelsMut T.Denot) → let One
      = Slice T a.lft in
      (length (near s walk).now < 2 ^ 64 → length (far s walk).now < 2 ^ 64
      → Seq K 𝓛 (‵ (One.own_val (near s walk) (slice_of (near s walk) ∷ [])) ∷
      ‵ ((rows_mut.the_row a (param 0 T)).own_val walk.rows (rows_lowered walk.rows ∷ [])) ∷
      ‵ (One.own_val (far s walk) (slice_of (far s walk) ∷ [])) ∷ Γ) G)
      → Seq K 𝓛 (‵ ((the_row a (param 0 T)).own_val walk (lowered walk ∷ [])) ∷ Γ) G
  sides t z at_front a T laws walk k = parts t z a T laws walk k
  sides t z at_back a T laws walk k = parts t z a T laws walk (λ front back. move t (2 ∷ 1 ∷ 0 ∷ []) $ k back front)

  pub joins_by : K → (s : Side) (a : NamedLft) (T : RattleType) (b o : ℕ) (near : MutBor (List T.Denot))
      (rows : RowsMut T.Denot) (far : MutBor (List T.Denot))
      (countable : Countable s near.now (rows_left rows) far.now) → let One = MutSlice a.mir a.lft (param 0 T) in let
      new = walk_by s near rows far countable in
      Step K 𝓛 (‵ (fat full_share Bare b o (lowered new)) ∷ ‵ ((the_row a (param 0 T)).own_val new (lowered new ∷ []))
      ∷ Γ) G
      (‵ (One.own_val near (slice_of near ∷ [])) ∷ ‵
      ((rows_mut.the_row a (param 0 T)).own_val rows (rows_lowered rows ∷ [])) ∷
      ‵ (One.own_val far (slice_of far ∷ [])) ∷ ‵ (fat full_share (Named a (param 0 T)) b o
      (whole_by s (slice_of near) (rows_lowered rows) (slice_of far))) ∷
      Γ) G
  joins_by t at_front a T b o near rows far countable = joins_pixels t a T b o
      (walk_by at_front near rows far countable)
  joins_by t at_back a T b o near rows far countable =
      step (λ k. move t (2 ∷ 1 ∷ 0 ∷ []) $ joins_pixels t a T b o (walk_by at_back near rows far countable) $ k)
