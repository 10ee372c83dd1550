-- `next_of_front` and `next_of_back` of an iterator that lends pixels. The end at which a function works is `s`. The
-- function cuts the next pixel off the begun row at this end, and keeps the rest. Generated proofs cannot follow a
-- `&mut` in a field of self, so this hand-written proof follows the code. Assumes `Logic`.
use Rattle.v_frame_buffer.proofs.Steps.{◌+◌, [], ◌∷◌, refl, closes, heard, framed, named, mut, erased, alloc_all}
use Rattle.v_frame_buffer.proofs.Steps.{free_all, get, get_in, lands_as, look_at, pass_all, sets, through, ‵, raw, ◌⊛◌}
use Rattle.v_frame_buffer.proofs.Steps.{◌$◌, !, drop, move, split, rewrite, use1, use2, agg, whole, addr, and_then}
use Rattle.v_frame_buffer.proofs.Steps.{assigns, enter, no_more, returns, stop, RattleType, Laws, Logic, Ura, Ty, tcons}
use Rattle.v_frame_buffer.proofs.Steps.{tnil, ty_param, ty_ref, ty_struct, MachineTables, Running, tables, Triple}
use Rattle.v_frame_buffer.proofs.Steps.{Callee, Fn, Sym, Place, addr_of, aggregate, assign, copy, deref, field, place}
use Rattle.v_frame_buffer.proofs.Steps.{return, rv_opd, Model, Closed, param, param_laws, named_lft, fat, full_share}
use Rattle.v_frame_buffer.proofs.Steps.{⊑_trans, of_opd, fld, from, hop, look_in_at, sub, store_in, frame, slice_val}
use Rattle.v_frame_plane.proofs.pixels_mut.PixelsMut.TheLaws.{lowers}
use Rattle.v_frame_plane.proofs.lent.RowMemory.{slice_of, lowered as rows_lowered}
use Rattle.v_frame_plane.specs.contracts.pixels_mut.PixelsMut.{the_row}
use Rattle.v_frame_buffer.proofs.Loans.{opens_self}
use Rattle.v_frame_plane.proofs.lent.PixelMemory.{lowered, Around, Bare, Named, as_named, field_in}
use Rattle.v_frame_plane.proofs.lent.PixelSides.{Walk, by_sides, near_out, near_part, near_place, part, sides, whole_by}
use Rattle.v_frame_plane.proofs.lent.PixelSides.{joins_by, pixel_of_row}
use Rattle.v_frame_plane.proofs.lent.Sides.{Side, Takes, near, slot, far, offset, walk_by}
use Rattle.v_frame_plane.proofs.lent.PixelCuts.{Cut, cuts_one, fewer, steps, takes_near}
use Rattle.v_frame_plane.proofs.lent.Cuts.{slice_fits}
use Rattle.v_frame_plane.proofs.lent.Taken.{IsTake, calls_take, word}
use Rattle.v_frame_buffer.proofs.CallSteps.{told}
use Rattle.v_frame_plane.proofs.lent.Methods.{Met, gets, gives, in_order, meets_by, method, set, value}

-- The code and its proof. The parameters are the names in the code for self, for its rows and for a pair, the types
-- of self and of an entry, and the called functions.
module _ {M : Type 1} {𝓤 : Ura M} (𝓛 : Logic 𝓤) (𝓜 : Model 𝓤 𝓛.H) (𝓡 : Running 𝓤 𝓛.H 𝓜) (T : RattleType)
    (laws : Laws T) (s : Side) (self rows pair : Sym)
    (kept entry : Ty) (taking cutting : Callee) where
  abbrev end : Place
  end = place 1 (deref (Walk self rows) ∷ field (slot s) ∷ [])

  abbrev code : Fn
  code = let pixel : Ty = ty_ref erased mut (ty_param 0) in
      method (in_order (set 6 (addr_of end) ∷ gets 5 taking (value 6 ∷ []) ∷ gets 4 cutting (value 5 ∷ []) ∷ set 2
      (rv_opd (copy (place 4 (field 0 ∷ [])))) ∷
      set 3 (rv_opd (copy (place 4 (field 1 ∷ [])))) ∷ set 7 (addr_of (place 3 (field 0 ∷ deref entry ∷ []))) ∷
      set 8 (aggregate (value 7 ∷ copy (place 3 (field 1 ∷ [])) ∷ [])) ∷ assign end (rv_opd (value 8)) ∷ set 0
      (addr_of (place 2 (deref entry ∷ []))) ∷ [])
      return) (ty_ref (named 1) mut (ty_param 0) ∷ ty_ref (named 0) mut kept ∷ pixel ∷ part ∷ ty_struct pair
      (tcons pixel (tcons part tnil)) ∷ part ∷
      ty_ref erased mut part ∷ pixel ∷ part ∷ [])

  abbrev 𝓣 : MachineTables 𝓤 𝓛.H 𝓜
  𝓣 = tables 𝓤 𝓛.H 𝓜 𝓡 𝓡.env

  pub meets : (key : Callee) → IsTake 𝓛 𝓜.mem 𝓡.returns T (𝓣.C taking) → Triple 𝓤 (𝓣.C cutting) (Cut 𝓛 T s) → Closed 𝓤
      𝓛.H 𝓣.C 𝓣.Λ key code →
      Met (pixel_of_row 𝓤 T s) 𝓛 (𝓣.C key)
  meets key take_meets cut_meets closed =
      let item = param 0 T in let m = pixel_of_row 𝓤 T s in let run = framed 𝓤 𝓛.H 𝓜 𝓣 in
      meets_by 𝓛 𝓜 𝓡 m key code closed (λ κs qs bounds self inT.
      let κ = κs.0 in let q = qs.0 in let κa = κs.1.0 in let qa = qs.1.0 in let κT = κs.1.1.0 in let qT = qs.1.1.0 in
      let aT = bounds.1.1.0 in
      let ℓ = named_lft 3 1 tt κs in let Row = the_row ℓ item in let inA = ⊑_trans κa κT T.lives aT inT in let b =
      self.ref_ptr.0 in
      let o = self.ref_ptr.1 in let h = self.now in let x = near s h in let rows = rows_lowered h.rows in let other =
      slice_of (far s h) in
      heard ! _ (λ some_left.
      enter ! _ _ _ _ _ $ alloc_all ! (λ l. pass_all ! refl ((tt, tt), tt) $
      opens_self ! tt Row κ q self (lowers ℓ item (param_laws 0 T laws)) $
      -- Context: [the cell of self; its resources; the open borrow, in three parts; the tokens of κa and κT; the
      -- locals]
      move ! (1 ∷ []) $ sides ! tt s ℓ T laws h (λ fits _.
      sets ! (addr ! (near_place ! s refl)) refl (tt, tt) $
      move ! (3 ∷ []) $ rewrite ! 0 (λ u. ‵ (fat full_share Bare b o u)) (by_sides s h rows) refl $
      use1 𝓛 (‵ (fat full_share word b (o + offset s) (slice_of x)) ⊛ raw
      (Around 𝓛 b o word (offset s) (λ u. whole_by s u rows other)))
      (near_out 𝓛 b o (slice_of x) rows other s) $ split ! $
      -- Context: [the field; the cell of self without it; this end; the rows; the other end; the open borrow; the
      -- tokens of κa and κT; the locals]
      move ! (0 ∷ 2 ∷ 8 ∷ []) $ calls_take ! run 𝓜.mem 𝓡.returns T κa (take_meets κa inA) qa x b (o + offset s) inA
      (λ α γ. and_then ! (get ! refl) (no_more !)) (λ e empty.
      lands_as ! refl refl (slice_fits fits) $
      -- Context: [the field; its new resources; this end; the token of κa; the cell of self without the field; the
      -- rows; the other end; the open borrow; the token of κT; ..]
      let left = whole_by s (slice_val e.ref_ptr 0) rows other in
      move ! (0 ∷ 4 ∷ []) $ use2 𝓛 (‵ (fat full_share Bare b o left))
      (field_in 𝓛 b o word (offset s) (λ u. whole_by s u rows other) (slice_val e.ref_ptr 0)) $
      use1 𝓛 (‵ (fat full_share (Named ℓ item) b o left)) (as_named 𝓛 b o ℓ item left) $ move ! (1 ∷ []) $ drop ! $
      -- Context: [the cell of self; this end; the token of κa; the rows; the other end; the open borrow; the token of
      -- κT; the locals]
      move ! (1 ∷ 2 ∷ 8 ∷ []) $ cuts_one ! run T s cut_meets κa κT qa qT aT inT x some_left
      (and_then ! (get ! refl) (no_more !)) (λ pixel rest is rest_fits.
      lands_as ! refl refl (tt, (tt, ((tt, (record { fits = rest_fits }, tt)), tt))) $
      -- Context: [the pixel; the rest; how this end ends; the tokens of κa and κT; the cell of self; the rows; the
      -- other end; the open borrow; the locals]
      sets ! (of_opd ! (get_in ! (fld ! refl (stop !)) (sub ! 0 refl (whole !)))) refl (tt, tt) $
      sets ! (of_opd ! (get_in ! (fld ! refl (stop !)) (sub ! 1 refl (whole !)))) refl (slice_fits rest_fits) $
      sets ! (addr ! (from ! (fld ! refl (hop ! (look_in_at ! 3 (sub ! 0 refl (whole !))) (stop !))))) refl (tt, tt) $
      sets ! (agg ! (and_then ! (get ! refl) (and_then ! (get_in ! (fld ! refl (stop !)) (sub ! 1 refl (whole !)))
      (no_more !)))) refl (slice_fits rest_fits) $
      assigns ! (of_opd ! (get ! refl)) (near_place ! s refl)
      (store_in ! 5 (near_part ! s ℓ item (slice_val e.ref_ptr 0) rows other (whole !)) (slice_fits rest_fits)) $
      sets ! (addr ! (through ! refl (stop !))) refl (tt, tt) $
      let countable = fewer h s pixel.now rest.now is in let new = walk_by s rest h.rows (far s h) countable in
      move ! (1 ∷ 6 ∷ 7 ∷ 5 ∷ []) $ joins_by ! s ℓ T b o rest h.rows (far s h) countable $
      move ! (0 ∷ 1 ∷ 6 ∷ 7 ∷ 8 ∷ []) $ closes ! tt Row new (lowered new ∷ []) b o $
      returns ! (look_at ! 0 refl) $ free_all ! refl $
      -- Context: [self, in two parts; the token of κ; the pixel; how this end ends; the tokens of κa and κT]
      move ! (4 ∷ []) $ use1 𝓛 (‵ (Takes s item h pixel new)) (takes_near 𝓛 item h pixel rest s is countable) $
      move ! (4 ∷ 1 ∷ 2 ∷ 3 ∷ 5 ∷ 6 ∷ []) $ gives ! m κs qs bounds self _ pixel new $ frame ! $ told !
      (steps h s pixel rest is countable)))))))
