-- `next` and `next_back` of an iterator that lends rows. The end at which a function works is `s`. The slice is split
-- where the next row at this end begins and where it ends, and the part towards the other end is kept. Generated
-- proofs cannot follow a `&mut` in a field of self, so this hand-written proof follows the code. Assumes `Logic`.
use Rattle.v_frame_buffer.proofs.Steps.{param_laws, ℕ, ◌≡◌, ◌+◌, ◌-◌, ◌*◌, ◌^◌, ◌<◌, List, [], ◌∷◌, length, Some, None}
use Rattle.v_frame_buffer.proofs.Steps.{lit<, w64, Val, fat, slice_val, vcons, vstruct, refl, ap, ◌∙◌, arith}
use Rattle.v_frame_buffer.proofs.Steps.{length-drop, Some-of, none_of, full_share, id⊢, ⊑_trans, fact, tables, param}
use Rattle.v_frame_buffer.proofs.Steps.{named_lft, MutSlice, usize, uint_vals, uint_Makes, closes, owned, heard, only}
use Rattle.v_frame_buffer.proofs.Steps.{framed, eqb→eq, named, mut, erased, of_list, vint, alloc_all, env, free_all}
use Rattle.v_frame_buffer.proofs.Steps.{get, lands_as, look_at, pass_all, sets, through, ‵, raw, at_ret, ◌$◌, !, drop}
use Rattle.v_frame_buffer.proofs.Steps.{feq_l, fsplit, move, use0, use1, use3, step, Step, Goal, Item, live, agg}
use Rattle.v_frame_buffer.proofs.Steps.{look_in, sub, whole, addr, and_then, assigns, bin, branches, enter, exec, first}
use Rattle.v_frame_buffer.proofs.Steps.{fld, lit, load, no_more, of_opd, returns, returns_within, skips, stop}
use Rattle.v_frame_buffer.proofs.Steps.{well_typed, RattleType, Laws, Logic, Ura, Ty, slice_ty, tcons, tnil, ty_int}
use Rattle.v_frame_buffer.proofs.Steps.{ty_param, ty_ref, ty_struct, MachineTables, Running, Meets, Triple, Callee, Fn}
use Rattle.v_frame_buffer.proofs.Steps.{Place, Opd as Operand, Sym, addr_of, aggregate, assign, cond, copy, deref, eq}
use Rattle.v_frame_buffer.proofs.Steps.{field, int, op2, place, return, rv_opd, seq, skip, ttcons, ttnil, ty_bool}
use Rattle.v_frame_buffer.proofs.Steps.{ty_enum, unsigned, w8, Model, Closed, Env, vptr, flt_l, store_raw, subst, sym}
use Rattle.v_frame_buffer.proofs.Steps.{frame, Args}
use mir.Syntax.{Body, Rv as Rvalue, sub as minus}
use denote.Triple.Entry.{Vals}
use types.Run.{Opd, Rv}
use Rattle.v_frame_plane.proofs.lent.RowMemory.{Bare, Numbers, WellTyped, bare, count_at, count_fit, gap_at, gap_fit}
use Rattle.v_frame_plane.proofs.lent.RowMemory.{lowered, numbers, slice_of, rest_fit}
use Rattle.v_frame_plane.proofs.lent.RowMemory.{start_at, start_fit, takes_slice, walk_owned, width_at, width_fit}
use Rattle.v_frame_buffer.proofs.CallSteps.{asks_both, calls, tells, told}
use Rattle.v_frame_plane.proofs.lent.Cuts.{Split, dropped, pointer_on, slice_on, splits, slice_fits, slices_fit}
use Rattle.v_frame_plane.proofs.lent.Methods.{Ends, Met, gets, gives, in_order, meets_by, method, set, value}
use Rattle.v_frame_plane.proofs.lent.RowDraws.{Cut, draws, inside, is_place, left, moves_on, none_left, number}
use Rattle.v_frame_plane.proofs.lent.RowDraws.{number_fits, place_of, some_left, start_of, stays}
use Rattle.v_frame_plane.proofs.lent.Sides.{Side, at_front, at_back, at_side, by_side, LendsRow}
use Rattle.v_frame_plane.specs.{FinalRows.EndsAs}
use Rattle.v_frame_buffer.proofs.{Loans.opens_self}
use Rattle.v_frame_plane.proofs.lent.{PixelSides.part, PixelSides.row_draw, RowLoans.leaves_none}
use Rattle.v_frame_plane.proofs.lent.{RowLoans.leaves_row, Taken.IsTake}
use Rattle.v_frame_plane.proofs.{rows_mut.RowsMut.TheLaws.lowers}
use Rattle.std.specs.contracts.option.Option as Opt
use Rattle.v_frame_plane.specs.contracts.rows_mut.RowsMut as rows_mut
use Rattle.v_frame_plane.specs.contracts.rows_mut.row_place

-- The parts of the code that depend on the end.
module _ {M : Type 1} {𝓤 : Ura M} {𝓛 : Logic 𝓤} {K : Type 0} {Γ : List (Item 𝓤)} {E : Env 𝓤 𝓛.H} where
  opd_by : (s : Side) (v : Side → Val) {x y : Operand} → Opd K 𝓛 Γ E x (v at_front) → Opd K 𝓛 Γ E y (v at_back) → Opd K
      𝓛 Γ E (at_side s x y) (v s)
  opd_by s v {x} {y} front back = by_side (λ e. Opd K 𝓛 Γ E (at_side e x y) (v e)) front back s

  rv_by : (s : Side) (v : Side → Val) {x y : Rvalue} → Rv K 𝓛 Γ E x (v at_front) → Rv K 𝓛 Γ E y (v at_back) → Rv K 𝓛 Γ
      E (at_side s x y) (v s)
  rv_by s v {x} {y} front back = by_side (λ e. Rv K 𝓛 Γ E (at_side e x y) (v e)) front back s

module _ {M : Type 1} {𝓤 : Ura M} {𝓛 : Logic 𝓤} {K : Type 0} {X : Type 0} {Γ : List (Item 𝓤)} {G : Goal 𝓤 𝓛.H} where
  -- The part that is kept, followed by the other part.
  kept_first : K → (s : Side) (Own : X → Item 𝓤) (behind before : X) → Step K 𝓛
      (Own (at_side s behind before) ∷ Own (at_side s before behind) ∷ Γ) G
      (Own behind ∷ Own before ∷ Γ) G
  kept_first t at_front Own behind before = step (λ k. k)
  kept_first t at_back Own behind before = step (λ k. move t (1 ∷ 0 ∷ []) $ k)

-- The code and its proof. The parameters are the names in the code for the result, for self and for two parts, the
-- types of self and of an entry, and the called functions.
module _ {M : Type 1} {𝓤 : Ura M} (𝓛 : Logic 𝓤) (𝓜 : Model 𝓤 𝓛.H) (𝓡 : Running 𝓤 𝓛.H 𝓜) (T : RattleType)
    (laws : Laws T) (s : Side)
    (option self pair : Sym) (kept entry : Ty) (placing taking splitting : Callee) where
  abbrev Self : Ty
  Self = ty_struct self (tcons part Numbers)

  abbrev own : ℕ → Place
  own k = place 1 (deref Self ∷ field k ∷ [])

  -- Part k of the two parts in local i is passed on: first its pointer, and then the slice at the pointer in local j.
  abbrev pointer : (i k : ℕ) → Rvalue
  pointer i k = addr_of (place i (field k ∷ field 0 ∷ deref entry ∷ []))

  abbrev slice : (i k j : ℕ) → Rvalue
  slice i k j = aggregate (value j ∷ copy (place i (field k ∷ field 1 ∷ [])) ∷ [])

  abbrev drawn : Body
  drawn = in_order (
      set 6 (op2 (minus unsigned) (value 5) (int w64 1)) ∷ gets 7 placing
      (value 2 ∷ value 3 ∷ value 4 ∷ at_side s (int w64 0) (value 6) ∷ []) ∷
      set 12 (addr_of (own 0)) ∷ gets 11 taking (value 12 ∷ []) ∷ gets 8 splitting (value 11 ∷ value 7 ∷ []) ∷
      set 13 (pointer 8 1) ∷ set 14 (slice 8 1 13) ∷ gets 9 splitting (value 14 ∷ value 3 ∷ []) ∷
      set 15 (at_side s (pointer 9 1) (pointer 8 0)) ∷ set 16 (at_side s (slice 9 1 15) (slice 8 0 15)) ∷
      set 17 (aggregate (value 16 ∷ at_side s (value 4) (value 2) ∷ value 3 ∷ value 4 ∷ value 6 ∷ [])) ∷
      assign (place 1 (deref Self ∷ [])) (rv_opd (value 17)) ∷ set 18 (pointer 9 0) ∷ set 19 (slice 9 0 18) ∷
      set 0 (aggregate (int w8 1 ∷ value 19 ∷ [])) ∷ []) return

  abbrev reads : (k i : ℕ) → Body
  reads k i = set i (rv_opd (copy (own k)))

  abbrev code : Fn
  code =
      let number = ty_int w64 in let parts = ty_struct pair (tcons part (tcons part tnil)) in let pointer = ty_ref
      erased mut (ty_param 0) in
      method (in_order (reads 1 2 ∷ reads 2 3 ∷ reads 3 4 ∷ reads 4 5 ∷ set 10 (op2 eq (value 5) (int w64 0)) ∷
      cond (value 10) (seq (set 0 (aggregate (int w8 0 ∷ []))) return) skip ∷ []) drawn)
      (ty_enum option (ttcons tnil (ttcons (tcons (slice_ty (ty_ref (named 1) mut (ty_param 0))) tnil) ttnil)) ∷ ty_ref
      (named 0) mut kept ∷
      number ∷ number ∷ number ∷ number ∷ number ∷ number ∷ parts ∷ parts ∷ ty_bool ∷ part ∷ ty_ref erased mut part ∷
      pointer ∷ part ∷ pointer ∷
      part ∷ Self ∷ pointer ∷ part ∷ [])

  abbrev 𝓣 : MachineTables 𝓤 𝓛.H 𝓜
  𝓣 = tables 𝓤 𝓛.H 𝓜 𝓡 𝓡.env

  pub meets : (key : Callee) → Meets 𝓛 row_place.signature (𝓣.C placing) (row_place.spec 𝓛 𝓜.mem 𝓡.returns) →
      IsTake 𝓛 𝓜.mem 𝓡.returns T (𝓣.C taking) → Triple 𝓤 (𝓣.C splitting) (Split 𝓛 𝓜.mem 𝓡.returns T) → Closed 𝓤 𝓛.H 𝓣.C
      𝓣.Λ key code →
      Met (row_draw 𝓤 T s) 𝓛 (𝓣.C key)
  meets key place_meets take_meets split_meets closed =
      let item = param 0 T in let m = row_draw 𝓤 T s in let run = framed 𝓤 𝓛.H 𝓜 𝓣 in
      meets_by 𝓛 𝓜 𝓡 m key code closed (λ κs qs bounds self inT.
      let κ = κs.0 in let q = qs.0 in let κa = κs.1.0 in let qa = qs.1.0 in let κT = κs.1.1.0 in let qT = qs.1.1.0 in
      let aT = bounds.1.1.0 in
      let ℓ = named_lft 3 1 tt κs in let Row = rows_mut.the_row ℓ item in let Slice = MutSlice (named 1) κa item in
      let b = self.ref_ptr.0 in let o = self.ref_ptr.1 in let h = self.now in let rest = h.rest in
      let Post = Ends m 𝓛 κs qs bounds self in let inA = ⊑_trans κa κT T.lives aT inT in
      drop ! $ enter ! _ _ _ _ _ $ alloc_all ! (λ l. pass_all ! refl ((tt, tt), tt) $
      opens_self ! tt Row κ q self (lowers ℓ item (param_laws 0 T laws)) $
      -- Context: [the cell of self; its resources; the open borrow, in three parts; the tokens of κa and κT; the
      -- locals]
      well_typed ! (λ ok. let start_fits = start_fit h ok in let width_fits = width_fit h ok in let gap_fits = gap_fit
      h ok in
      let count_fits = count_fit h ok in
      sets ! (of_opd ! (load ! (through ! refl (fld ! refl (stop !))) (look_in ! 0 (sub ! start_at refl (whole !)))))
      refl (tt, start_fits) $
      sets ! (of_opd ! (load ! (through ! refl (fld ! refl (stop !))) (look_in ! 0 (sub ! width_at refl (whole !)))))
      refl (tt, width_fits) $
      sets ! (of_opd ! (load ! (through ! refl (fld ! refl (stop !))) (look_in ! 0 (sub ! gap_at refl (whole !)))))
      refl (tt, gap_fits) $
      sets ! (of_opd ! (load ! (through ! refl (fld ! refl (stop !))) (look_in ! 0 (sub ! count_at refl (whole !)))))
      refl (tt, count_fits) $
      sets ! (bin ! (get ! refl) (lit ! tt) tt) refl (tt, tt) $
      first ! $ branches ! (get ! refl)
      -- If no row remains, everything is unchanged.
      (λ empty. closes ! tt Row h (lowered h ∷ []) b o $
      sets ! (agg ! (and_then ! (lit ! tt) (no_more !))) refl (tt, (record { fits = lit< tt }, tt)) $
      returns_within ! Post refl (look_at ! 0 refl) $ free_all ! refl $
      use0 𝓛 (‵ ((Opt.the_row Slice).own_val None (live 0 (of_list []) ∷ []))) (none_of 𝓛 Slice) $
      gives ! m κs qs bounds self (live 0 (of_list [])) None h $ use0 𝓛 (‵ (LendsRow s item h None h))
      (leaves_none 𝓛 item s h) $ frame ! $
      tells ! (none_left h s (eqb→eq h.count 0 empty)) $ told ! (stays h))
      (λ test. let more : 0 < h.count = some_left h.count test in let room = inside h s more in let here = place_of s h
      in
      let fewer : h.count - 1 < 2 ^ 64 = omega (arith, count_fits.fits) in let place_fits : here < 2 ^ 64 = omega
      (arith, room, (rest_fit h ok).fits) in
      let sum_fits = subst (λ n. n < 2 ^ 64) (sym (is_place h s)) place_fits in
      skips ! $ exec ! 𝓣.C 𝓣.Λ (env code.locals l) drawn (at_ret _ Post) $
      sets ! (bin ! (get ! refl) (lit ! tt) more) refl (tt, record { fits = fewer }) $
      owned ! usize _ (uint_Makes 𝓛 w64) (number s h) _ (refl, number_fits h s count_fits.fits) $
      owned ! usize _ (uint_Makes 𝓛 w64) h.gap _ (refl, gap_fits.fits) $
      owned ! usize _ (uint_Makes 𝓛 w64) h.width _ (refl, width_fits.fits) $ owned ! usize _ (uint_Makes 𝓛 w64) h.start
      _ (refl, start_fits.fits) $
      let values : Args row_place.signature tt = (h.start, (h.width, (h.gap, (number s h, tt)))) in
      let words : Vals row_place.signature tt = (
        uint_vals w64 h.start,
        (uint_vals w64 h.width, (uint_vals w64 h.gap, (uint_vals w64 (number s h), tt))),
      ) in
      calls ! (0 ∷ 1 ∷ 2 ∷ 3 ∷ []) run row_place.ended (row_place.clauses 𝓛 𝓜.mem 𝓡.returns) place_meets
      ((tt, tt, tt, values, words), tt)
      (asks_both 𝓤 h.within.stride sum_fits) refl
      (and_then ! (get ! refl) (and_then ! (get ! refl) (and_then ! (get ! refl) (and_then !
      (opd_by s (λ e. vint w64 (number e h)) (lit ! tt) (get ! refl)) (no_more !)))))
      (λ r ws. raw (fact 𝓤 (r ≡ h.start + number s h * (h.width + h.gap))) ∷ []) (λ r ws. id⊢ 𝓤 _) (λ v r ws.
      fsplit ! $ feq_l ! (λ e. flt_l ! (λ _. heard ! _ (λ is. drop ! $ drop ! $ drop ! $ drop ! $
      lands_as ! (ap only e ∙ ap (vint w64) (is ∙ is_place h s)) refl (tt, record { fits = place_fits }) $
      sets ! (addr ! (through ! refl (fld ! refl (stop !)))) refl (tt, tt) $
      move ! (0 ∷ 1 ∷ 5 ∷ []) $ takes_slice ! run 𝓜.mem 𝓡.returns T ℓ (take_meets κa inA) qa h b o
      (numbers h h.start h.count) inA
      (λ α γ. and_then ! (get ! refl) (no_more !)) (λ e rest_fits.
      lands_as ! refl refl (slice_fits rest_fits) $
      -- Context: [the cell of self; the slice; the token of κa; the open borrow, in three parts; the token of κT; the
      -- locals]
      move ! (1 ∷ 2 ∷ 6 ∷ []) $ splits ! run 𝓜.mem 𝓡.returns T split_meets κa κT qa qT aT inT rest here place_fits
      (omega (arith, room))
      (and_then ! (get ! refl) (and_then ! (get ! refl) (no_more !))) (λ before at before_is at_is before_fits at_fits.
      lands_as ! refl refl (slices_fit before_fits at_fits) $
      sets ! (pointer_on ! (sub ! 1 refl (whole !)) refl) refl (tt, tt) $ sets !
      (slice_on ! (sub ! 1 refl (whole !)) refl refl) refl (slice_fits at_fits) $
      -- Context: [the part in front; the part from the row on; how the slice ends; the tokens of κa and κT; the cell
      -- of self; the open borrow]
      move ! (1 ∷ 3 ∷ 4 ∷ []) $ splits ! run 𝓜.mem 𝓡.returns T split_meets κa κT qa qT aT inT at h.width width_fits.fits
      (omega (arith, room, ap length at_is, length-drop here rest.now))
      (and_then ! (get ! refl) (and_then ! (get ! refl) (no_more !)))
      (λ row behind row_is behind_is row_fits behind_fits.
      lands_as ! refl refl (slices_fit row_fits behind_fits) $
      -- Context: [the row; the part behind; how the second part ends; the tokens of κa and κT; the part in front; how
      -- the slice ends; the cell of self; the open borrow]
      let cut : Cut h before at row behind more s = record
      { before_is = before_is; at_is = at_is; row_is = row_is; behind_is = behind_is } in
      let new = left h before at row behind more s cut in let kept = at_side s behind before in let other = at_side s
      before behind in
      let kept_fits : length kept.now < 2 ^ 64 = by_side (λ e. length (at_side e behind before).now < 2 ^ 64)
      behind_fits before_fits s in
      let start'_fits : start_of s h < 2 ^ 64 = by_side (λ e. start_of e h < 2 ^ 64) gap_fits.fits start_fits.fits s in
      sets ! (rv_by s (λ e. let kept = at_side e behind before in vptr kept.ref_ptr.0 kept.ref_ptr.1)
      (pointer_on ! (sub ! 1 refl (whole !)) refl) (pointer_on ! (sub ! 0 refl (whole !)) refl)) refl (tt, tt) $
      sets ! (rv_by s (λ e. slice_val kept.ref_ptr (length (at_side e behind before).now))
      (slice_on ! (sub ! 1 refl (whole !)) refl refl) (slice_on ! (sub ! 0 refl (whole !)) refl refl)) refl
      (slice_fits kept_fits) $
      let typed : WellTyped new = (
        tt,
        (
          (tt, (record { fits = kept_fits }, tt)),
          (record { fits = start'_fits }, (width_fits, (gap_fits, (record { fits = fewer }, tt)))),
        ),
      ) in
      sets ! (agg ! (and_then ! (get ! refl) (and_then !
      (opd_by s (λ e. vint w64 (start_of e h)) (get ! refl) (get ! refl))
      (and_then ! (get ! refl) (and_then ! (get ! refl) (and_then ! (get ! refl) (no_more !))))))) refl typed $
      let ns = numbers h h.start h.count in
      move ! (7 ∷ []) $ use1 𝓛 (‵ (fat full_share Bare b o (vstruct (vcons (slice_val e.ref_ptr 0) ns))))
      (bare 𝓛 b o ns ℓ item (slice_val e.ref_ptr 0)) $
      assigns ! (of_opd ! (get ! refl)) (through ! refl (stop !)) (store_raw ! 0 refl typed) $
      let part = slice_of row in let out = live 1 (of_list (part ∷ [])) in
      sets ! (pointer_on ! (sub ! 0 refl (whole !)) refl) refl (tt, tt) $ sets !
      (slice_on ! (sub ! 0 refl (whole !)) refl refl) refl (slice_fits row_fits) $
      sets ! (agg ! (and_then ! (lit ! tt) (and_then ! (get ! refl) (no_more !))))
      refl (tt, (record { fits = lit< tt }, ((tt, (record { fits = row_fits }, tt)), tt))) $
      move ! (2 ∷ 6 ∷ []) $ kept_first ! s (λ x. ‵ (Slice.own_val x (slice_of x ∷ []))) behind before $
      -- Context: [the kept part; the other part; the cell of self; the row; how the second part ends; the tokens of
      -- κa and κT; how the slice ends; the open borrow]
      use1 𝓛 (‵ (Row.own_val new (lowered new ∷ [])))
      (walk_owned 𝓛 ℓ item h ok kept (start_of s h) (h.count - 1) new.within start'_fits fewer) $
      move ! (1 ∷ []) $ use1 𝓛 (‵ (EndsAs item other.ghost_name other.now)) (dropped 𝓛 item (named 0) κa other _) $
      move ! (2 ∷ 1 ∷ 8 ∷ 9 ∷ 10 ∷ []) $ closes ! tt Row new (lowered new ∷ []) b o $ returns ! (look_at ! 0 refl) $
      free_all ! refl $
      -- Context: [self, in two parts; the token of κ; how the other part ends; the row; how the second part ends; the
      -- tokens of κa and κT; how the slice ends]
      move ! (3 ∷ 8 ∷ 5 ∷ []) $ use3 𝓛 (‵ (LendsRow s item h (Some row) new))
      (leaves_row 𝓛 item h before at row behind more s cut) $
      move ! (4 ∷ []) $ use1 𝓛 (‵ ((Opt.the_row Slice).own_val (Some row) (out ∷ []))) (Some-of 𝓛 Slice row part) $
      -- Context: [the row in the form of a result; the effect of the call; self, in two parts; the tokens]
      move ! (0 ∷ 2 ∷ 3 ∷ 4 ∷ 5 ∷ 6 ∷ []) $ gives ! m κs qs bounds self out (Some row) new $ frame ! $
      tells ! (draws h before at row behind more s cut) $ told ! (moves_on h before at row behind more s cut))))))))))))
