-- `row_mut` checks y and wraps the slice that `visible_row_mut` lends in `Some`. Rattle generates no proof for a
-- `&mut [T]` that is lent only in some cases, so this hand-written proof follows the code.
use Rattle.v_frame_buffer.proofs.Steps.{◌≡◌, ◌<◌, ◌≤◌, List, [], ◌∷◌, length, Some, None, lit<, w64, refl, sym, ap}
use Rattle.v_frame_buffer.proofs.Steps.{arith, after, Some-of, none_of, proved, Lft, flent, flft, full_share, ent, id⊢}
use Rattle.v_frame_buffer.proofs.Steps.{◌⊑◌, ⊑_trans, fact, tables, Array, usize, yes, no, mem, param, layouts}
use Rattle.v_frame_buffer.proofs.Steps.{param_laws, uint_vals, uint_Tells, RattleType, mut_vals, mut_Tells, plain}
use Rattle.v_frame_buffer.proofs.Steps.{MutSlice, slice_val, nothing, only, heard, framed, Stays, stay_dropped}
use Rattle.v_frame_buffer.proofs.Steps.{Goes-dropped, walk_of, inst_fn, a_type, named, Val, of_list, Ura, alloc_all}
use Rattle.v_frame_buffer.proofs.Steps.{pass_all, free_all, look_at, get, through, sets, lands_as, env, ‵, raw, ◌⊛◌}
use Rattle.v_frame_buffer.proofs.Steps.{later, at_ret, ◌$◌, ◌∵◌, !, qed, done, keep, move, drop, use0, use1, use2}
use Rattle.v_frame_buffer.proofs.Steps.{split, await, fsplit, fsplit3, fjoin3, fpack, feq_i, feq_l, Logic, sem, live}
use Rattle.v_frame_buffer.proofs.Steps.{agg, enter, lit, addr, bin, stop, no_more, and_then, first, branches, skips}
use Rattle.v_frame_buffer.proofs.Steps.{exec, returns, returns_within, true, false, slice_get, fres, frame, Incl-refl}
use Rattle.v_frame_buffer.proofs.Steps.{⊑_refl, meet_⊑_right, follows, follows_if, lends_shr, part_at, ShrRef, shr_vals}
use Rattle.v_frame_buffer.proofs.Steps.{Goes-spent_ref, leb→le, nleb→lt, flt_l, lent_back, GName}
use Rattle.std.specs.contracts.option.Option as Opt
use mathlib.Core.Option.{Option}
use base.Share
use denote.Ref.{as_bor}
use denote.Follow.{follows_by, follows_so, such_by}
use types.Mut.{open_ref, close_ref}
use Rattle.v_frame_raster.specs.Raster.{table_of}
use Rattle.v_frame_plane.specs.Plane.{WritesEachRow, with_row}
use Rattle.v_frame_raster.specs.Table.{height_of}
use Rattle.v_frame_plane.specs.Lends.{LendsRow}
use Rattle.v_frame_plane.specs.contracts.plane.Plane.{the_row}
use Rattle.v_frame_plane.proofs.plane.Plane.TheLaws.{the_row_laws, the_within}
use Rattle.v_frame_buffer.proofs.CallSteps.{asks_both, asks_that, calls, ends, opened, spelt, tells, told}
use Rattle.v_frame_plane.proofs.lent.Cuts.{slice_fits}
use Rattle.v_frame_buffer.proofs.Loans.{lft_over, lft_within, share_within}
use Rattle.v_frame_raster.proofs.tables.Places.{no_row_below}
use Rattle.v_frame_plane.specs.contracts.plane.Plane.height
use Rattle.v_frame_plane.proofs.plane.Plane.height.Met as height_met
use Rattle.v_frame_plane.specs.contracts.plane.Plane.visible_row_mut
use Rattle.v_frame_plane.proofs.plane.Plane.visible_row_mut.Met as visible_row_mut_met
use Rattle.v_frame_plane.specs.contracts.plane.Plane.row_mut
use Rattle.v_frame_plane.proofs.plane.Plane.row_mut.Statement.{statement}
use Rattle.v_frame_plane.proofs.plane.Plane.row_mut.Code as code

-- If a function determines a final value, the value meets every statement that is true of the function.
such : {M : Type 1} {𝓤 : Ura M} (𝓛 : Logic 𝓤) (R S : RattleType) (γ : GName) (m : Option GName) (F : S.Denot → R.Denot)
    (v : R.Denot)
    (P : S.Denot → R.Denot → Type 0) (P₀ : R.Denot → Type 0) → ((w : S.Denot) → P w (F w)) → P₀ v
    → ent 𝓤 (sem 𝓛 (follows_if R S γ m F v)) (sem 𝓛 (follows_so R S γ m P P₀))
unfolding such_by
such 𝓛 R S γ m F v P P₀ holds held = qed 𝓛 (‵ (follows_if R S γ m F v) ∷ []) ∵
    fpack ! ((s : (S.Denot → R.Denot) × R.Denot) × ((w : S.Denot) → P w (s.0 w)) × P₀ s.1)
    (λ x. follows_if R S γ m x.0.0 x.0.1) ((F, v), holds, held) $ done !

pub row_mut_spec : {M : Type 1} → statement M
unfolding follows_by
row_mut_spec 𝓤 𝓛 𝓜 𝓡 wired T laws =
    let item = param 0 T in let args = layouts (a_type ∷ []) (T, tt) in let function = inst_fn args code.function in
    let 𝓣 = tables 𝓤 𝓛.H 𝓜 𝓡 𝓡.env in let run = framed 𝓤 𝓛.H 𝓜 𝓣 in
    let En = row_mut.ended T in let c = row_mut.clauses T 𝓛 𝓜.mem 𝓡.returns in let Plane = the_row item in
    let stayed : Stays En.signature.params En.kept = (stay_dropped _ no, (stay_dropped _ yes, tt)) in
    proved 𝓛 En stayed c 𝓜 𝓡 (
      Goes-spent_ref 𝓛 2 (0 ∷ []) tt (plain (λ _. Plane)),
      (Goes-dropped 𝓛 2 (plain (λ _. usize)) yes (λ κs x w. refl), tt),
    )
    (row_mut.Key.name args) function (code.unfolded 𝓤 𝓛.H 𝓜 𝓡 wired (T, tt))
    (λ κs. (mut_vals, (uint_vals w64, tt))) (λ κs. (mut_Tells (named 0) κs.0 Plane, (uint_Tells w64, tt)))
    (λ κs qs bounds a _ are.
    let κT = κs.1.0 in let qT = qs.1.0 in let self = a.0 in let y = a.1.0 in let b = self.ref_ptr.0 in let o =
    self.ref_ptr.1 in
    let Row = MutSlice (named 0) κs.0 item in
    let bound : (walk_of 𝓛 En stayed c).Ghost = ((κs, qs, bounds, a, (mut_vals self, (uint_vals w64 y, tt))), tt) in
    let Post = (walk_of 𝓛 En stayed c).post bound in
    opened 𝓛 En.signature κs qs a (mut_vals self, (uint_vals w64 y, tt)) (κT ⊑ T.lives) (λ inT.
    enter ! _ _ _ _ _ $ alloc_all ! (λ l. pass_all ! refl ((tt, tt), ((tt, record { fits = are.1.0.1 }), tt)) $
    sets ! (addr ! (through ! refl (stop !))) refl (tt, tt) $
    -- The plane is shared with `height` for a lifetime κ', which is created for this call.
    move ! (1 ∷ []) $ lft_within ! tt κT qT (λ α.
    let κ' : Lft = α ∷ κT in let s = share_within qT in let shared = as_bor self in
    let within : κ' ⊑ T.lives = ⊑_trans κ' κT T.lives (meet_⊑_right (α ∷ []) κT) inT in
    -- Context: [the token of κ'; the way back to that of κT; the token of κ; self; y; the locals]
    move ! (3 ∷ 2 ∷ []) $ fsplit3 ! $ drop ! $ open_ref ! tt (mem Plane) $ move ! (0 ∷ 4 ∷ []) $
    use2 𝓛 (later ((‵ ((ShrRef (named 0) κ' Plane).own_val shared (shr_vals shared)) ⊛ ‵
    (flent κ' (part_at Plane full_share self.now b o))) ⊛ ‵ (flft κ' s)))
    (lends_shr 𝓛 Plane (named 0) κ' full_share self.now b o Plane.lives
    ((the_row_laws item (param_laws 0 T laws)).shares 𝓛 self.now) ((κ', s) ∷
    []) (the_within item κ' within) (Incl-refl κ')) $ await ! tt $ split ! $ split ! $
    -- Context: [the shared plane; the right to it; the token of κ'; self, open, in three parts; the way back to that
    -- of κT; y; the locals]
    move ! (2 ∷ []) $ use1 𝓛 (‵ (flft κ' (Share.left s)) ⊛ ‵ (flft κ' (Share.right s))) (𝓛.lfts.lft_split κ' s) $ split
    ! $
    calls ! (0 ∷ 1 ∷ 2 ∷ []) run (height.ended T) (height.clauses T 𝓛 𝓜.mem 𝓡.returns)
    (height_met.met 𝓤 𝓛 𝓜 𝓡 (code.calls-v_frame_plane::plane::Plane::height 𝓡.env wired) T laws)
    (((κ', (κ', tt)), (Share.left s, (Share.right s, tt)), (⊑_refl κ', tt), (shared, tt), (shr_vals shared, tt)), tt)
    (asks_that 𝓤 within) refl
    (and_then ! (get ! refl) (no_more !)) (λ r ws. raw (fact 𝓤 (r ≡ self.now.geometry.height)) ∷ raw (fact 𝓤 (0 < r)) ∷
    raw (fact 𝓤 (r ≡ height_of (table_of self.now))) ∷ []) (λ r ws. id⊢ 𝓤 _) (λ v rows ws.
    fsplit ! $ feq_l ! (λ e. flt_l ! (λ fits. heard ! _
    (λ is_height. drop ! $ drop ! $ use2 𝓛 (‵ (flft κ' s)) (𝓛.lfts.lft_join κ' s) $
    -- Context: [the token of κ'; nothing; the right to the plane; self, open; the way back to the token of κT; y; the
    -- locals]
    move ! (0 ∷ 6 ∷ []) $ lft_over ! tt α κT qT $ move ! (0 ∷ 3 ∷ []) $ lent_back ! tt $
    move ! (0 ∷ 3 ∷ 4 ∷ 5 ∷ []) $ close_ref ! tt (mem Plane) self.now $ feq_i ! (List Val) (mut_vals self)
    (mut_vals self) refl $ fjoin3 ! $
    move ! (3 ∷ []) $ drop ! $
    lands_as ! (ap only e) refl (tt, record { fits = fits }) $
    sets ! (bin ! (get ! refl) (get ! refl) tt) refl (tt, tt) $
    -- Context: [self; the token of κ; that of κT; y; the locals]
    first ! $ branches ! (get ! refl)
    -- If y is not a visible row, the plane is unchanged.
    (λ below.
    sets ! (agg ! (and_then ! (lit ! tt) (no_more !))) refl (tt, (record { fits = lit< tt }, tt)) $
    returns_within ! Post refl (look_at ! 0 refl) $ free_all ! refl $
    fsplit3 ! $ keep ! (1 ∷ 3 ∷ 4 ∷ []) $ use1 𝓛 (‵ (fres self.ghost_name (Plane.coded.code self.now)))
    (𝓛.names.obs-res self.ghost_name (Plane.coded.code self.now)) $
    use1 𝓛 (‵ (LendsRow item self y None)) (such 𝓛 Plane (Array item 0) _ _ (with_row self.now y) self.now _ _
    (λ row. tt) refl) $
    use0 𝓛 (‵ ((Opt.the_row Row).own_val None (live 0 (of_list []) ∷ []))) (none_of 𝓛 Row) $
    nothing ! $ nothing ! $ ends ! (4 ∷ 5 ∷ 0 ∷ 1 ∷ 2 ∷ []) En stayed c bound (live 0 (of_list [])) None (tt, (tt, tt))
    (tt, (tt, tt)) refl $
    let past : self.now.geometry.height ≤ y = omega (arith, leb→le rows y below, is_height) in
    frame ! $ tells ! (sym (no_row_below self.now y past)) $ tells ! (λ _. past, λ _. refl) $ told ! tt)
    -- Otherwise the final plane follows from the final row.
    (λ within_rows.
    skips ! $ exec ! 𝓣.C 𝓣.Λ (env function.locals l) (after 4 function.body) (at_ret _ Post) $
    sets ! (addr ! (through ! refl (stop !))) refl (tt, tt) $
    -- Context: [self; the token of κ; that of κT; y; the locals]
    let inside : y < self.now.geometry.height = omega (arith, nleb→lt rows y within_rows, is_height) in
    calls ! (1 ∷ 2 ∷ 0 ∷ 3 ∷ []) run (visible_row_mut.ended T) (visible_row_mut.clauses T 𝓛 𝓜.mem 𝓡.returns)
    (visible_row_mut_met.met 𝓤 𝓛 𝓜 𝓡 (code.calls-v_frame_plane::plane::Plane::visible_row_mut 𝓡.env wired) T laws)
    bound (asks_both 𝓤 inT inside) refl
    (and_then ! (get ! refl) (and_then ! (get ! refl) (no_more !)))
    (λ r ws. ‵ (follows Plane (Array item 0) self.ghost_name r.ghost_name (with_row self.now y)) ∷ raw
    (fact 𝓤 (slice_get (table_of self.now) y ≡ Some r.now)) ∷
    raw (fact 𝓤 (WritesEachRow self.now y r.now)) ∷ raw (fact 𝓤 (length r.now ≡ self.now.geometry.width)) ∷ [])
    (λ r ws. id⊢ 𝓤 _) (λ w r ws.
    spelt ! Row (λ s. slice_val s.ref_ptr (length s.now)) (λ _ _ is. is.0.0) r w (λ is_slice is.
    move ! (2 ∷ 3 ∷ 4 ∷ []) $ heard ! _ (λ value. heard ! _ (λ written. heard ! _ (λ wide.
    -- Context: [the row; how the plane ends; the tokens; nothing, twice; the locals]
    let part = slice_val r.ref_ptr (length r.now) in let out = live 1 (of_list (part ∷ [])) in let fits = slice_fits
    is.0.1.0 in
    lands_as ! is_slice refl fits $
    sets ! (agg ! (and_then ! (lit ! tt) (and_then ! (get ! refl) (no_more !)))) refl
    (tt, (record { fits = lit< tt }, (fits.1, tt))) $
    returns ! (look_at ! 0 refl) $ free_all ! refl $ keep ! (1 ∷ 0 ∷ 2 ∷ 3 ∷ []) $
    use1 𝓛 (‵ (LendsRow item self y (Some r))) (such 𝓛 Plane (Array item 0) _ _ (with_row self.now y) self.now _ _
    written refl) $
    move ! (1 ∷ []) $ use1 𝓛 (‵ ((Opt.the_row Row).own_val (Some r) (out ∷ []))) (Some-of 𝓛 Row r part) $
    nothing ! $ nothing ! $ ends ! (4 ∷ 5 ∷ 0 ∷ 1 ∷ 2 ∷ []) En stayed c bound out (Some r) (tt, (tt, tt))
    (tt, (tt, tt)) refl $
    frame ! $ tells ! (sym value) $ tells ! (
      λ h. let no : true ≡ false = h in cc,
      λ past. absurd
          (omega (arith, past, inside)),
    ) $ told ! wide))))))))))))))
