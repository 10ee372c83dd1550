-- `next` and `next_back` of an iterator that lends pixels. The end at which a function works is `s`. The function
-- cuts the next pixel off the begun row at this end. If this row is used up, it begins another one first. Generated
-- proofs cannot follow a `&mut` in a field of self, so this hand-written proof follows the code. Assumes `Logic`.
use Rattle.v_frame_buffer.proofs.Steps.{◌≡◌, [], ◌∷◌, length, Some, None, MutBor, lit<, refl, sym, ◌∙◌, none_of, sep}
use Rattle.v_frame_buffer.proofs.Steps.{tables, param, MutRef, mut_vals, named_lft, closes, heard, only, framed, named}
use Rattle.v_frame_buffer.proofs.Steps.{mut, erased, of_list, alloc_all, env, free_all, get, lands_as, look_at}
use Rattle.v_frame_buffer.proofs.Steps.{pass_all, sets, through, ‵, raw, ◌⊛◌, at_ret, ◌$◌, !, move, split, use0, use2}
use Rattle.v_frame_buffer.proofs.Steps.{live, agg, whole, addr, and_then, bin, branches, enter, exec, first, lit}
use Rattle.v_frame_buffer.proofs.Steps.{no_more, returns_within, skips, stop, well_typed, sem, RattleType, Laws, Logic}
use Rattle.v_frame_buffer.proofs.Steps.{Ura, Ty, tcons, tnil, ty_int, ty_param, ty_ref, w64, MachineTables, Running}
use Rattle.v_frame_buffer.proofs.Steps.{Callee, Fn, Sym, addr_of, aggregate, assign, cond, copy, deref, field, int, op2}
use Rattle.v_frame_buffer.proofs.Steps.{place, return, rv_opd, seq, skip, ttcons, ttnil, ty_bool, ty_enum, w8, Model}
use Rattle.v_frame_buffer.proofs.Steps.{Closed, Sq, param_laws, ◌+◌, fat, full_share, ⊑_trans, slice_val, get_in}
use Rattle.v_frame_buffer.proofs.Steps.{look_in_at, drop, rewrite, use1, store_in, sub, fld, from, hop, of_opd, holding}
use Rattle.v_frame_buffer.proofs.Steps.{forget_but, runs, fobor, fobs, fauth, mem, Item, List, Option, vptr, Some-of}
use Rattle.v_frame_buffer.proofs.Steps.{Place, flft, Body as Borrow, id⊢, MutSlice, fjoin, split3, subst, arm}
use Rattle.v_frame_buffer.proofs.Steps.{no_default, switch, variant, Wp, after_seq, get_tag, any_q, post, in_variant}
use Rattle.v_frame_buffer.proofs.Steps.{vrt, assigns_last, switches_on, frame, !, Env, Calls, Loops, Post as Exit}
use Rattle.v_frame_buffer.proofs.Steps.{Opd as Operand, FmC, Lft, Share, ℕ, ◌⊑◌, ◌<◌, lands, call, seq, fact_i, emp}
use Rattle.v_frame_buffer.proofs.Steps.{regoal, Val, eq, eqb→eq, NamedLft, fbor, prop, Seq}
use types.Run.{Opd}
use mir.Syntax.{Body}
use Rattle.v_frame_plane.proofs.pixels_mut.PixelsMut.TheLaws.{lowers}
use Rattle.v_frame_plane.proofs.lent.RowMemory.{slice_of, lowered as rows_lowered, Bare as RowsBare}
use Rattle.v_frame_plane.specs.PixelsLeft.{pixels_left}
use Rattle.v_frame_plane.specs.FinalPixels.{KeepsPixels, PixelEndsAs, FinalPixels}
use Rattle.v_frame_plane.specs.contracts.pixels_mut.PixelsMut.{the_row}
use Rattle.v_frame_plane.specs.declared.pixels_mut.PixelsMut.{PixelsMut}
use Rattle.v_frame_plane.proofs.lent.PixelDraws.{after_keeping, moves, rests, yields_none, yields_pixel, keeps_same}
use Rattle.v_frame_buffer.proofs.Loans.{opens_self}
use Rattle.v_frame_plane.proofs.lent.PixelMemory.{lowered, Around, Bare, Named, as_named, field_in, rows_offset}
use Rattle.v_frame_plane.proofs.lent.PixelMemory.{rows_out, whole as self_of}
use Rattle.v_frame_plane.proofs.lent.PixelSides.{Walk, near_fits, near_len, by_sides, near_part, near_place, part}
use Rattle.v_frame_plane.proofs.lent.PixelSides.{sides, whole_by, far_out, joins_by, pixel_draw, pixel_of_row, row_draw}
use Rattle.v_frame_plane.proofs.lent.Sides.{Side, Steps, Takes, near, put, slot, far, offset, LendsRow, YieldsRow}
use Rattle.v_frame_plane.proofs.lent.Sides.{no_rows, other, row_steps}
use Rattle.v_frame_plane.proofs.lent.Cuts.{slice_fits, dropped}
use Rattle.v_frame_plane.proofs.lent.Taken.{IsTake, by_row, calls_take, word}
use Rattle.v_frame_plane.proofs.lent.RowDraws.{some_left}
use Rattle.v_frame_plane.specs.FinalRows.{EndsAs}
use Rattle.v_frame_plane.proofs.lent.PixelLoans.{begun, begun_countable, begun_full, begun_left, keeps_begun}
use Rattle.v_frame_plane.proofs.lent.PixelLoans.{keeps_taken, taken, taken_countable, taken_left, taken_none}
use Rattle.v_frame_buffer.proofs.CallSteps.{spelt, tells, told}
use Rattle.v_frame_plane.proofs.lent.Methods.{Ends, Met, calls_self, gets, gives, in_order, meets_by, method, set}
use Rattle.v_frame_plane.proofs.lent.Methods.{value}
use Rattle.v_frame_plane.proofs.rows_mut.RowsMut.TheLaws.{lowers as rows_lowers}
use Rattle.std.specs.contracts.option.Option as Opt

module _ {M : Type 1} {𝓤 : Ura M} {𝓛 : Logic 𝓤} {K : Type 0} {Γ : List (Item 𝓤)} {E : Env 𝓤 𝓛.H} {C : Calls 𝓤 𝓛.H}
    {Λ : Loops 𝓤 𝓛.H} {p : Exit 𝓤 𝓛.H} {f :
    Callee} {x : Operand} {d : Place} {rest : Body} where
  -- A pixel is cut off a begun row that has one, up to its store.
  cuts_self : K → FmC 𝓤 𝓛.H 𝓛.laws C → (T : RattleType) → Laws T → (s : Side) → Met (pixel_of_row 𝓤 T s) 𝓛 (C f) →
      (κ κT : Lft) (q qT : Share) →
      κ ⊑ κT → κT ⊑ T.lives → (walk : PixelsMut T.Denot) (b o : ℕ) → 0 < length (near s walk).now →
      ((i j l : Item 𝓤) → Opd K 𝓛 (i ∷ j ∷ l ∷ Γ) E x (vptr b o))
      → let Row = the_row (record { mir = named 1; lft = κ }) (param 0 T) in
      ((pixel : MutBor T.Denot) (new : PixelsMut T.Denot) → Steps s walk pixel new
      → Seq K 𝓛 (‵ ((MutRef (named 1) κ (param 0 T)).own_val pixel (mut_vals pixel)) ∷ ‵
      (Takes s (param 0 T) walk pixel new) ∷
      ‵ (fat full_share Bare b o (lowered new)) ∷ ‵ (Row.own_val new (lowered new ∷ [])) ∷ ‵ (flft κ q) ∷ ‵
      (flft κT qT) ∷ Γ)
      (lands C Λ E d (only (mut_vals pixel)) rest p))
      → Seq K 𝓛 (‵ (fat full_share Bare b o (lowered walk)) ∷ ‵ (Row.own_val walk (lowered walk ∷ [])) ∷ ‵ (flft κ q) ∷
      ‵ (flft κT qT) ∷ Γ)
      (runs C Λ E (seq (call f (x ∷ []) d) rest) p)
  cuts_self t run T laws s met κ κT q qT inside inT walk b o some_left reads k =
      let ℓ : NamedLft = record { mir = named 1; lft = κ } in
      calls_self t run (pixel_of_row 𝓤 T s) met κ κT q qT inside inT (lowers ℓ (param 0 T) (param_laws 0 T laws)) refl
      Bare refl walk b o
      (fact_i 𝓤 _ (emp 𝓤) some_left) reads (λ v pixel new. move t (5 ∷ []) $ split t $ move t (1 ∷ []) $ heard t _
      (λ steps.
      -- Context: [the taken slice; the cell of self; its resources; the tokens of κ and κT; the pixel]
      move t (5 ∷ []) $ spelt t (MutRef (named 1) κ (param 0 T)) (λ r. only (mut_vals r)) (λ r vs is. is.0) pixel v
      (λ is _.
      regoal t (λ (u : Val). lands C Λ E d u rest p) is refl $ k pixel new steps)))

-- The code and its proof. The parameters are the names in the code for the result, for self and for its rows, the
-- types of self, of the lent self and rows and of an entry, and the called functions.
module _ {M : Type 1} {𝓤 : Ura M} (𝓛 : Logic 𝓤) (𝓜 : Model 𝓤 𝓛.H) (𝓡 : Running 𝓤 𝓛.H 𝓜) (T : RattleType)
    (laws : Laws T) (s : Side)
    (option self rows : Sym) (kept lent lent_rows entry : Ty) (cutting drawing taking : Callee) where
  abbrev Self : Ty
  Self = Walk self rows

  abbrev end_of : Side → Place
  end_of e = place 1 (deref Self ∷ field (slot e) ∷ [])

  -- A pixel is cut off the begun row, through the locals i and j.
  abbrev cuts : ℕ → ℕ → Body
  cuts i j = in_order (set i (addr_of (place 1 (deref Self ∷ []))) ∷ gets j cutting (value i ∷ []) ∷ set 0
      (aggregate (int w8 1 ∷ value j ∷ [])) ∷ []) return

  -- The code for a begun row without pixels, and the code after it.
  abbrev where_empty : ℕ → ℕ → Body → Body → Body
  where_empty i j does rest = in_order (set i (rv_opd (copy (place 1 (deref Self ∷ field (slot s) ∷ field 1 ∷ [])))) ∷
      set j (op2 eq (value i) (int w64 0)) ∷ cond (value j) does skip ∷ []) rest

  -- The code after a row was taken, and the code if there was none.
  abbrev drawn : Body
  drawn = in_order (set 2 (rv_opd (copy (place 5 (variant 1 ∷ field 1 ∷ [])))) ∷ set 7
      (addr_of (place 2 (field 0 ∷ deref entry ∷ []))) ∷
      set 8 (aggregate (value 7 ∷ copy (place 2 (field 1 ∷ [])) ∷ [])) ∷ []) (assign (end_of s) (rv_opd (value 8)))

  abbrev not_drawn : Body
  not_drawn = in_order (set 10 (addr_of (end_of (other s))) ∷ gets 9 taking (value 10 ∷ []) ∷ [])
      (assign (end_of s) (rv_opd (value 9)))

  abbrev refilled : Body
  refilled = where_empty 11 12 (seq (set 0 (aggregate (int w8 0 ∷ []))) return) (cuts 14 13)

  abbrev refills : Body
  refills = in_order (set 6 (addr_of (place 1 (deref Self ∷ field 1 ∷ []))) ∷ gets 5 drawing (value 6 ∷ []) ∷
      switch (copy (place 5 (variant 0 ∷ field 0 ∷ []))) (arm (1 ∷ []) drawn (arm (0 ∷ []) not_drawn no_default)) ∷ [])
      refilled

  abbrev code : Fn
  code = let by_ref : Ty → Ty = ty_ref erased mut in let pixel : Ty = by_ref (ty_param 0) in
      let given : Ty → Ty = λ τ. ty_enum option (ttcons tnil (ttcons (tcons τ tnil) ttnil)) in
      method (where_empty 3 4 refills (cuts 16 15))
      (given (ty_ref (named 1) mut (ty_param 0)) ∷ ty_ref (named 0) mut kept ∷ part ∷ ty_int w64 ∷ ty_bool ∷
      given part ∷ by_ref lent_rows ∷ pixel ∷ part ∷ part ∷ by_ref part ∷ ty_int w64 ∷ ty_bool ∷ pixel ∷ by_ref lent ∷
      pixel ∷ by_ref lent ∷ [])

  abbrev 𝓣 : MachineTables 𝓤 𝓛.H 𝓜
  𝓣 = tables 𝓤 𝓛.H 𝓜 𝓡 𝓡.env

  pub meets : (key : Callee) → Met (pixel_of_row 𝓤 T s) 𝓛 (𝓣.C cutting) → Met (row_draw 𝓤 T s) 𝓛 (𝓣.C drawing) →
      IsTake 𝓛 𝓜.mem 𝓡.returns T (𝓣.C taking) → Closed 𝓤 𝓛.H 𝓣.C 𝓣.Λ key code → Met (pixel_draw 𝓤 T s) 𝓛 (𝓣.C key)
  meets key cut_meets draw_meets take_meets closed =
      let item = param 0 T in let m = pixel_draw 𝓤 T s in let run = framed 𝓤 𝓛.H 𝓜 𝓣 in
      meets_by 𝓛 𝓜 𝓡 m key code closed (λ κs qs bounds self inT.
      let κ = κs.0 in let q = qs.0 in let κa = κs.1.0 in let qa = qs.1.0 in let κT = κs.1.1.0 in let qT = qs.1.1.0 in
      let aT = bounds.1.1.0 in
      let ℓ = named_lft 3 1 tt κs in let Row = the_row ℓ item in let Pixel = MutRef (named 1) κa item in let inA =
      ⊑_trans κa κT T.lives aT inT in
      let b = self.ref_ptr.0 in let o = self.ref_ptr.1 in let h = self.now in let Post = Ends m 𝓛 κs qs bounds self in
      let walks = lowers ℓ item (param_laws 0 T laws) in
      -- A pixel is returned after a step that kept the pixels.
      let gives_one : (w new : PixelsMut T.Denot) (pixel : MutBor T.Denot) → pixels_left w ≡ pixels_left h → Steps s w
      pixel new →
      Sq 𝓛 (‵ (fobs self.ghost_name (Row.coded.code new)) ∷ ‵ (fbor κ (Borrow (mem Row) b o self.ghost_name)) ∷ ‵
      (flft κ q) ∷
      ‵ (Pixel.own_val pixel (mut_vals pixel)) ∷ ‵ (Takes s item w pixel new) ∷ ‵ (flft κa qa) ∷ ‵ (flft κT qT) ∷ ‵
      (KeepsPixels item h w) ∷ [])
      (prop (Post (live 1 (of_list (mut_vals pixel))))) = λ w new pixel left steps. let all : Steps s h pixel new = sym
      left ∙ steps in
      move ! (7 ∷ 4 ∷ []) $ use2 𝓛 (‵ (Takes s item h pixel new))
      (after_keeping 𝓛 item (λ held. sep 𝓤 (sem 𝓛 (PixelEndsAs item pixel.ghost_name held.0))
      (sem 𝓛 (FinalPixels item new held.1))) (λ held. put s held.0 held.1) h w) $
      move ! (4 ∷ []) $ use1 𝓛 (‵ ((Opt.the_row Pixel).own_val (Some pixel) (live 1 (of_list (mut_vals pixel)) ∷ [])))
      (Some-of 𝓛 Pixel pixel (only (mut_vals pixel))) $
      move ! (0 ∷ 2 ∷ 3 ∷ 4 ∷ 5 ∷ 6 ∷ []) $ gives ! m κs qs bounds self (live 1 (of_list (mut_vals pixel)))
      (Some pixel) new $
      frame ! $ tells ! (yields_pixel h new pixel s all) $ told ! (moves h new pixel s all) in
      drop ! $ enter ! _ _ _ _ _ $ alloc_all ! (λ l. pass_all ! refl ((tt, tt), tt) $
      opens_self ! tt Row κ q self walks $
      let En = env code.locals l in
      -- Context: the cell of self; its resources; the open borrow, in three parts; the tokens of κa and κT; the fact
      -- that the pixels are kept; the locals.
      let Now : PixelsMut T.Denot → List (Item 𝓤) = λ w. ‵ (fat full_share Bare b o (lowered w)) ∷ ‵
      (Row.own_val w (lowered w ∷ [])) ∷
      ‵ (fobor κ q (Borrow (mem Row) b o self.ghost_name)) ∷ ‵ (fobs self.ghost_name (Row.coded.code h)) ∷ ‵
      (fauth self.ghost_name (Row.coded.code h)) ∷
      ‵ (flft κa qa) ∷ ‵ (flft κT qT) ∷ ‵ (KeepsPixels item h w) ∷ holding 𝓛 En ((1, vptr b o) ∷ []) in
      let after : Body → Exit 𝓤 𝓛.H → Exit 𝓤 𝓛.H = λ body p. any_q
      (after_seq 𝓤 𝓛.H (Wp 𝓤 𝓛.H 𝓣.C 𝓣.Λ En body (post 𝓤 𝓛.H p)) (post 𝓤 𝓛.H p)) in
      let Within = after (cuts 16 15) (at_ret En Post) in
      -- Another row was begun, or the begun row of the other end continues here.
      let goes_on : (w : PixelsMut T.Denot) → pixels_left w ≡ pixels_left h →
      (length (near s w).now ≡ 0 → pixels_left w ≡ []) →
      Sq 𝓛 (Now w) (runs 𝓣.C 𝓣.Λ En refilled Within) = λ w left begun. well_typed ! (λ ok.
      sets ! (near_len ! s w refl (whole !)) refl (tt, near_fits s w ok) $ sets ! (bin ! (get ! refl) (lit ! tt) tt)
      refl (tt, tt) $
      first ! $ branches ! (get ! refl)
      -- Nothing remains.
      (λ empty.
      move ! (0 ∷ 1 ∷ 2 ∷ 3 ∷ 4 ∷ []) $ closes ! tt Row w (lowered w ∷ []) b o $
      sets ! (agg ! (and_then ! (lit ! tt) (no_more !))) refl (tt, (record { fits = lit< tt }, tt)) $
      returns_within ! Post refl (look_at ! 0 refl) $ free_all ! refl $
      -- Context: [self, in two parts; the token of κ; those of κa and κT; the fact that the pixels are kept]
      use0 𝓛 (‵ ((Opt.the_row Pixel).own_val None (live 0 (of_list []) ∷ []))) (none_of 𝓛 Pixel) $
      gives ! m κs qs bounds self (live 0 (of_list [])) None w $
      frame ! $ tells ! (yields_none h w s left (begun (eqb→eq (length (near s w).now) 0 empty))) $ told !
      (rests h w left))
      (λ test.
      skips ! $ exec ! 𝓣.C 𝓣.Λ En (cuts 14 13) Within $
      sets ! (addr ! (through ! refl (stop !))) refl (tt, tt) $
      move ! (0 ∷ 1 ∷ 5 ∷ 6 ∷ []) $ cuts_self ! run T laws s cut_meets κa κT qa qT aT inT w b o
      (some_left (length (near s w).now) test)
      (λ _ _ _. get ! refl) (λ pixel new steps.
      lands_as ! refl refl (tt, tt) $
      sets ! (agg ! (and_then ! (lit ! tt) (and_then ! (get ! refl) (no_more !)))) refl
      (tt, (record { fits = lit< tt }, (tt, tt))) $
      move ! (2 ∷ 3 ∷ 6 ∷ 7 ∷ 8 ∷ []) $ closes ! tt Row new (lowered new ∷ []) b o $
      returns_within ! Post refl (look_at ! 0 refl) $ free_all ! refl $ gives_one w new pixel left steps))) in
      well_typed ! (λ ok.
      sets ! (near_len ! s h refl (whole !)) refl (tt, near_fits s h ok) $ sets ! (bin ! (get ! refl) (lit ! tt) tt)
      refl (tt, tt) $
      first ! $ branches ! (get ! refl)
      -- If the begun row has no pixel, the next row is begun.
      (λ is_empty. let none = eqb→eq (length (near s h).now) 0 is_empty in let x = near s h in let y = far s h in
      sets ! (addr ! (through ! refl (fld ! refl (stop !)))) refl (tt, tt) $
      move ! (1 ∷ []) $ sides ! tt s ℓ T laws h (λ _ far_fits. move ! (3 ∷ []) $
      use1 𝓛 (‵ (fat full_share RowsBare b (o + rows_offset) (rows_lowered h.rows)) ⊛
      raw (Around 𝓛 b o RowsBare rows_offset (λ u. self_of (slice_of h.front) u (slice_of h.back))))
      (rows_out 𝓛 b o (slice_of h.front) (rows_lowered h.rows) (slice_of h.back)) $ split ! $
      -- Context: [the rows' cell; the way back; this end; the resources of the rows; the other end; the open borrow;
      -- the tokens of κa and κT; the locals]
      move ! (0 ∷ 3 ∷ 8 ∷ 9 ∷ []) $ calls_self ! run (row_draw 𝓤 T s) draw_meets κa κT qa qT aT inT
      (rows_lowers ℓ item (param_laws 0 T laws)) refl RowsBare
      refl h.rows b (o + rows_offset) (id⊢ 𝓤 _) (λ _ _ _. get ! refl) (λ v r rows. let ns = rows_lowered rows in
      -- Context: [the rows' cell; their resources; the tokens of κa and κT; the row; the clauses of the call; the way
      -- back; this end; the other end; the open borrow; the locals]
      move ! (0 ∷ 6 ∷ []) $ use2 𝓛 (‵ (fat full_share Bare b o (self_of (slice_of h.front) ns (slice_of h.back))))
      (field_in 𝓛 b o RowsBare rows_offset (λ u. self_of (slice_of h.front) u (slice_of h.back)) ns) $
      rewrite ! 0 (λ u. ‵ (fat full_share Bare b o u)) (by_sides s h ns) refl $
      move ! (5 ∷ []) $ split3 ! $ move ! (1 ∷ []) $ heard ! _ (λ steps. move ! (1 ∷ []) $ drop ! $ move ! (6 ∷ []) $
      use1 𝓛 (‵ (EndsAs item x.ghost_name x.now)) (dropped 𝓛 item (named 1) κa x _) $
      -- Context: [how this end ends; the effect of the call; the cell of self; the resources of the rows; the tokens
      -- of κa and κT; the row; the other end; the open borrow; the locals]
      move ! (6 ∷ []) $ by_row ! T κa r v
      -- If there is no row, the begun row of the other end is taken over here.
      (λ gone out. let few = no_rows s h.rows rows (subst (λ r. YieldsRow s h.rows r rows) gone steps) in
      rewrite ! 1 (λ (r : Option (MutBor (List T.Denot))). ‵ (LendsRow s item h.rows r rows)) gone refl $
      lands_as ! out refl (tt, (record { fits = lit< tt }, tt)) $
      first ! $ switches_on ! (get_tag ! (vrt ! refl (fld ! refl (stop !))) (whole !)) $
      exec ! 𝓣.C 𝓣.Λ En not_drawn (after refilled Within) $
      sets ! (addr ! (near_place ! (other s) refl)) refl (tt, tt) $
      move ! (2 ∷ []) $ use1 𝓛 (‵ (fat full_share word b (o + offset (other s)) (slice_of y)) ⊛
      raw (Around 𝓛 b o word (offset (other s)) (λ u. whole_by s (slice_of x) ns u)))
      (far_out 𝓛 b o (slice_of x) ns (slice_of y) s) $ split ! $
      -- Context: [the other end's cell; the way back; how this end ends; the effect of the call; the resources of the
      -- rows; the tokens of κa and κT; the other end; the open borrow; the locals]
      move ! (0 ∷ 7 ∷ 5 ∷ []) $ calls_take ! run 𝓜.mem 𝓡.returns T κa (take_meets κa inA) qa y b (o + offset (other s))
      inA
      (λ β δ. and_then ! (get ! refl) (no_more !)) (λ e empty.
      lands_as ! refl refl (slice_fits far_fits) $
      let new = taken h rows e empty few.0 few.1 s in let left = whole_by s (slice_of x) ns (slice_val e.ref_ptr 0) in
      -- Context: [the other end's cell; the value left there; the other end; the token of κa; the way back; how this
      -- end ends; the effect of the call; the resources of the rows; the token of κT; the open borrow; the locals]
      move ! (0 ∷ 4 ∷ []) $ use2 𝓛 (‵ (fat full_share Bare b o left))
      (field_in 𝓛 b o word (offset (other s)) (λ u. whole_by s (slice_of x) ns u)
      (slice_val e.ref_ptr 0)) $
      use1 𝓛 (‵ (fat full_share (Named ℓ item) b o left)) (as_named 𝓛 b o ℓ item left) $
      assigns_last ! (of_opd ! (get ! refl)) (near_place ! s refl)
      (store_in ! 0 (near_part ! s ℓ item (slice_of x) ns (slice_val e.ref_ptr 0) (whole !)) (slice_fits far_fits)) $
      exec ! 𝓣.C 𝓣.Λ En refilled Within $
      rewrite ! 0 (λ (xs : List T.Denot). ‵ (fat full_share (Named ℓ item) b o
      (whole_by s (slice_of y) ns (slice_val e.ref_ptr (length xs)))))
      (sym empty) refl $
      rewrite ! 1 (λ (xs : List T.Denot). ‵ ((MutSlice (named 1) κa item).own_val e
      (slice_val e.ref_ptr (length xs) ∷ []))) (sym empty) refl $
      -- Context: [the cell of self; the new iterator; the other end; the token of κa; how this end ends; the effect
      -- of the call; the resources of the rows; the token of κT; the open borrow; the locals]
      move ! (4 ∷ 5 ∷ []) $ fjoin ! $ use1 𝓛 (‵ (KeepsPixels item h new))
      (keeps_taken 𝓛 item h rows e empty few.0 few.1 s none) $
      move ! (3 ∷ 5 ∷ 2 ∷ 1 ∷ []) $ joins_by ! s ℓ T b o y rows e (taken_countable h rows e empty few.0 few.1 s) $
      move ! (0 ∷ 1 ∷ 5 ∷ 6 ∷ 7 ∷ 3 ∷ 4 ∷ []) $ forget_but ! En (1 ∷ []) refl $
      goes_on new (taken_left h rows e empty few.0 few.1 s none) (taken_none h rows e empty few.0 few.1 s)))
      -- If there is a row, it is begun here.
      (λ row there out row_fits.
      let is = row_steps s h.rows row rows (subst (λ r. YieldsRow s h.rows r rows) there steps) in let new = begun h
      rows row s is in
      rewrite ! 2 (λ (r : Option (MutBor (List T.Denot))). ‵ (LendsRow s item h.rows r rows)) there refl $
      move ! (1 ∷ 2 ∷ []) $ fjoin ! $ use1 𝓛 (‵ (KeepsPixels item h new)) (keeps_begun 𝓛 item h rows row s is none) $
      let left = whole_by s (slice_of x) ns (slice_of y) in
      move ! (2 ∷ []) $ use1 𝓛 (‵ (fat full_share (Named ℓ item) b o left)) (as_named 𝓛 b o ℓ item left) $
      -- Context: [the cell of self; the fact that the pixels are kept; the row; the resources of the rows; the tokens
      -- of κa and κT; the other end; the open borrow; the locals]
      lands_as ! out refl (tt, (record { fits = lit< tt }, ((tt, (record { fits = row_fits }, tt)), tt))) $
      first ! $ switches_on ! (get_tag ! (vrt ! refl (fld ! refl (stop !))) (whole !)) $
      exec ! 𝓣.C 𝓣.Λ En drawn (after refilled Within) $
      sets ! (of_opd ! (get_in ! (vrt ! refl (fld ! refl (stop !))) (in_variant ! 1 0 refl refl (whole !)))) refl
      (slice_fits row_fits) $
      sets ! (addr ! (from ! (fld ! refl (hop ! (look_in_at ! 2 (sub ! 0 refl (whole !))) (stop !))))) refl (tt, tt) $
      sets ! (agg ! (and_then ! (get ! refl) (and_then ! (get_in ! (fld ! refl (stop !)) (sub ! 1 refl (whole !)))
      (no_more !)))) refl (slice_fits row_fits) $
      assigns_last ! (of_opd ! (get ! refl)) (near_place ! s refl)
      (store_in ! 0 (near_part ! s ℓ item (slice_of x) ns (slice_of y) (whole !)) (slice_fits row_fits)) $
      exec ! 𝓣.C 𝓣.Λ En refilled Within $
      move ! (2 ∷ 3 ∷ 6 ∷ 0 ∷ []) $ joins_by ! s ℓ T b o row rows y (begun_countable h rows row s is) $
      move ! (0 ∷ 1 ∷ 5 ∷ 6 ∷ 7 ∷ 3 ∷ 4 ∷ []) $ forget_but ! En (1 ∷ []) refl $
      goes_on new (begun_left h rows row s is none) (begun_full h rows row s is))))))
      (λ test.
      skips ! $ exec ! 𝓣.C 𝓣.Λ En (cuts 16 15) (at_ret En Post) $
      sets ! (addr ! (through ! refl (stop !))) refl (tt, tt) $ use0 𝓛 (‵ (KeepsPixels item h h)) (keeps_same 𝓛 item h)
      $
      move ! (1 ∷ 2 ∷ 6 ∷ 7 ∷ 3 ∷ 4 ∷ 5 ∷ []) $ cuts_self ! run T laws s cut_meets κa κT qa qT aT inT h b o
      (some_left (length (near s h).now) test)
      (λ _ _ _. get ! refl) (λ pixel new steps.
      lands_as ! refl refl (tt, tt) $
      sets ! (agg ! (and_then ! (lit ! tt) (and_then ! (get ! refl) (no_more !)))) refl
      (tt, (record { fits = lit< tt }, (tt, tt))) $
      move ! (2 ∷ 3 ∷ 6 ∷ 7 ∷ 8 ∷ []) $ closes ! tt Row new (lowered new ∷ []) b o $
      returns_within ! Post refl (look_at ! 0 refl) $ free_all ! refl $ gives_one h new pixel refl steps)))))
