-- `deallocate` drops the entries in order, so that the block is uninitialized memory again, and returns it to the
-- allocator. Assumes `Logic`.
use Rattle.v_frame_buffer.proofs.Steps.{◌≡◌, refl, sym, ap, ◌∙◌, List, [], ◌∷◌, ℕ, ◌+◌, ◌*◌, ◌≤◌, ◌<◌, ◌^◌, arith, lit<}
use Rattle.v_frame_buffer.proofs.Steps.{length, Ura, full_share, a_type, named, w64, inst_fn, Val, vptr, vint, SProp}
use Rattle.v_frame_buffer.proofs.Steps.{sep, id⊢, fat, flft, Logic, fact, ◌⊑◌, tables, Item, ‵, raw, some, later, ◌⊛◌}
use Rattle.v_frame_buffer.proofs.Steps.{at_ret, ◌$◌, !, move, keep, drop, use0, use1, use2, split, group, pick, await}
use Rattle.v_frame_buffer.proofs.Steps.{rewrite, fsplit, feq_i, feq_l, done, whole, sub, load, stop, fld, lit, bin}
use Rattle.v_frame_buffer.proofs.Steps.{of_opd, and_then, no_more, first, branches, skips, exec, returns, enter}
use Rattle.v_frame_buffer.proofs.Steps.{alloc_all, pass_all, free_all, look_at, get, get_in, through, sets, env, usize}
use Rattle.v_frame_buffer.proofs.Steps.{yes, no, plain, nothing, Clauses, Stays, stay_dropped, walk_of, Goes-dropped}
use Rattle.v_frame_buffer.proofs.Steps.{after, subst, suc, zero-mul, suc-mul, ltb→lt, nltb→le, dcons, dnil, ty_array}
use Rattle.v_frame_buffer.proofs.Steps.{vunit, never, Incl-trans, froom, align, capped, capped_fits, Wp, after_seq}
use Rattle.v_frame_buffer.proofs.Steps.{after_block, at_return, Sq, given, any_q, runs, learn, flt_l, look, align_word}
use Rattle.v_frame_buffer.proofs.Steps.{unit_lit, blocks, jumps, loops, again, Below, forget, forget_but, holding}
use Rattle.v_frame_buffer.proofs.Steps.{take_at, give_at, sets_last, lands_last, is, RefOf, hidden_shr, bounded, Ptr}
use Rattle.v_frame_buffer.proofs.Steps.{block_ptr, in_a_block, calls_at_last, Ended, Al, Goes-blank, token, Gives}
use Rattle.v_frame_buffer.proofs.Steps.{at_gives, Gives-goes, Gives-Gives, El, R, elτ, el_out, times_below, one_more}
use Rattle.v_frame_buffer.proofs.Steps.{block_ty, block_size, block_align, P, as_raw, word, word-Good, head, inside}
use Rattle.v_frame_buffer.proofs.Steps.{Post as After, RattleType, proved, framed, shr_vals, shr_Tells, uint_vals}
use Rattle.v_frame_buffer.proofs.Steps.{uint_Tells, param_laws, Valss, types_at, emp, layout, Bool, ◌==◌}
use mathlib.Core.WellFounded.InvImage
use lib.WfN.{lt-wf_rel}
use mir.Syntax.{Args}
use prog.Wp.{after_turn}
use contract.Running.{tables_of}
use Rattle.core.proofs.ptr.Rows as Rows
use denote.Param.Glue as glue
use lib.Ieee.Bits.{is_false}
use Rattle.v_frame_buffer.proofs.CallSteps.{both_facts, opened_by, ends, calls_last, asks_that, unit_fits}
use Rattle.v_frame_buffer.specs.Block.{token_if, entries_at, room_at, cells_own, deed_owns}
use Rattle.v_frame_buffer.proofs.block.BlockRooms.{one_more_fact, Bases, Kept, Deeds, wide, no_bytes, room_joined}
use Rattle.v_frame_buffer.proofs.block.BlockRooms.{counted}
use Rattle.v_frame_buffer.proofs.aligned.block.Base.TheLaws as base
use Rattle.v_frame_buffer.proofs.aligned.block.Cells.TheLaws as cells
use Rattle.v_frame_buffer.proofs.aligned.block.Deed.TheLaws as deed
use Rattle.v_frame_buffer.specs.contracts.aligned.block.deallocate as F
use Rattle.v_frame_buffer.specs.contracts.aligned.block.deallocate.Key.{name as #self}
use Rattle.v_frame_buffer.proofs.aligned.block.deallocate.Statement.{statement}
use Rattle.v_frame_buffer.proofs.aligned.block.deallocate.Code as code

-- The contract of dropping an entry, as a caller sees it.
abbrev Drops : RattleType → Ended
Drops X = record { signature = glue.signature X; kept = (no, tt) }

abbrev drops : (X : RattleType) {M : Type 1} {𝓤 : Ura M} (𝓛 : Logic 𝓤) → Clauses 𝓤 (Drops X)
drops X {𝓤 = 𝓤} 𝓛 κs a = record {
  ghost = Unit {0};
  requires = λ _. sep 𝓤 (fact 𝓤 (κs.0 ⊑ X.lives)) (emp 𝓤);
  ensures =
      λ _ r e. emp 𝓤;
}

-- A list that is not empty has a first entry.
first_of : {A : Type 0} (xs : List A) → 0 < length xs → (x : A) × (rest : List A) × (xs ≡ x ∷ rest)
first_of [] h = absurd (omega (arith, h))
first_of (x ∷ xs) h = (x, xs, refl)

pub deallocate_spec : {M : Type 1} → statement M
unfolding tables_of after_turn
deallocate_spec 𝓤 𝓛 𝓜 𝓡 wired X W X-laws W-laws g dz dx dd met dropped _ =
    let E : El = record { row = X; laws = X-laws } in let Z : Al = record
    { row = W; laws = W-laws; g = g; d = dz; drops = dd } in
    let rows : Rows.El = record { row = X; laws = X-laws } in let LR = param_laws 0 X X-laws in
    let base_tells = base.lowers (R E) LR in let cells_tell = cells.lowers (R E) LR in
    let deed_tells = deed.lowers (R E) (P E Z) g LR (param_laws 1 W W-laws) in
    let 𝓣 = tables 𝓤 𝓛.H 𝓜 𝓡 𝓡.env in let run = framed 𝓤 𝓛.H 𝓜 𝓣 in
    let En = F.ended X W g dz dx dd in let c = F.clauses X W g dz dx dd 𝓛 𝓜.mem 𝓡.returns in
    let inst : Args = bounded (a_type ∷ a_type ∷ []) (X, (W, tt)) (dcons dz (dcons dx (dcons dd dnil))) in let fn =
    inst_fn inst code.function in
    let stayed : Stays En.signature.params En.kept = (
      stay_dropped _ yes,
      (
        stay_dropped _ no,
        (
          stay_dropped _ yes,
          (stay_dropped _ yes, (stay_dropped _ no, (stay_dropped _ no, tt))),
        ),
      ),
    ) in
    let base_goes = Goes-dropped 𝓛 3 (plain (λ _. Bases E)) no (λ κs x w. refl) in let number = Goes-dropped 𝓛 3
    (plain (λ _. usize)) yes (λ κs x w. refl) in
    let cells_go = Goes-blank 𝓛 3 (plain (λ _. Kept E)) no (λ κs x w. tt) in let deed_goes = Goes-blank 𝓛 3
    (plain (λ _. Deeds E Z)) no (λ κs x w. tt) in
    proved 𝓛 En stayed c 𝓜 𝓡 (
      Goes-dropped 𝓛 3 (RefOf (0 ∷ []) tt (plain (λ _. P E Z)) (λ _. tt)) yes (λ κs x w. refl),
      (base_goes, (number, (number, (cells_go, (deed_goes, tt))))),
    )
    (#self inst) fn (code.unfolded 𝓤 𝓛.H 𝓜 𝓡 wired (X, (W, tt)) dz dx dd) _
    (λ κs. (
      shr_Tells (named 0) κs.0 (P E Z),
      (
        base_tells.val_is,
        (uint_Tells w64, (uint_Tells w64, (cells_tell.val_is, (deed_tells.val_is, tt)))),
      ),
    ))
    (λ κs qs bounds a gh are.
    let κ = κs.0 in let q = qs.0 in let κ₁ = κs.1.0 in let q₁ = qs.1.0 in let κ₂ = κs.1.1.0 in let q₂ = qs.1.1.0 in
    let h = a.0.now in let at = a.0.ref_ptr in let start = a.1.0.ptr in let written = a.1.1.0 in let len = a.1.1.1.0 in
    let items = a.1.1.1.1.0.items in let spare = a.1.1.1.1.0.spare in let s = wide E in
    let words : Valss (types_at En.signature.params κs) = (
      shr_vals a.0,
      (
        word start ∷ [],
        (
          uint_vals w64 written,
          (uint_vals w64 len, (no_bytes ∷ [], (no_bytes ∷ [], tt))),
        ),
      ),
    ) in
    let y : (walk_of 𝓛 En stayed c).Ghost = ((κs, qs, bounds, a, words), gh) in let Post : Val → SProp 𝓤 =
    (walk_of 𝓛 En stayed c).post y in
    opened_by 𝓛 En.signature κs qs a words _ _ (one_more_fact 𝓤 _ (one_more_fact 𝓤 _ (both_facts 𝓤 _ _))) (λ asked.
    let lives : κ₁ ⊑ X.lives = asked.0 in let of_cells = asked.1.1.0 in let of_deed = asked.1.1.1 in
    let all : written + spare ≡ len = of_cells.2 in let few : written < 2 ^ 64 = are.1.1.0.1 in let fits : len < 2 ^ 64
    = are.1.1.1.0.1 in
    keep ! (7 ∷ 8 ∷ 3 ∷ 0 ∷ 1 ∷ 2 ∷ []) $ fsplit ! $ drop ! $ move ! (1 ∷ []) $ fsplit ! $ drop ! $ move ! (2 ∷ []) $
    fsplit ! $ drop ! $
    enter ! _ _ _ _ _ $ alloc_all ! (λ l. pass_all ! refl
    (_, (word-Good [] start, ((tt, record { fits = few }), ((tt, record { fits = fits }), _)))) $
    -- Context: [the handle; the resources of the deed; the resources of the cells; the tokens of κ, κ₁ and κ₂; the
    -- locals]
    let Ev = env fn.locals l in let turn = inside (inside (head (after 1 fn.body))) in let rest = after 2 fn.body in
    sets ! (of_opd ! (lit ! tt)) refl (tt, record { fits = lit< tt }) $
    move ! (2 ∷ []) $ in_a_block ! _ (λ p. cells_own (R E) p items spare) (id⊢ 𝓤 (never 𝓤))
    (λ b o e. fsplit ! $ flt_l ! (λ fit. fsplit ! $
    let begins : start ≡ block_ptr b o = sym of_cells.0 ∙ e in
    let bytes : len * s < 2 ^ 64 = omega (
      arith,
      subst (λ k. k * s < 2 ^ 63) (ap (λ k. k + spare) of_cells.1 ∙ all)
          fit,
    ) in
    -- The resources of the deed. `none` is the result of the test whether the entries take no bytes.
    let Token : Bool → Item 𝓤 = λ none. ‵ (token_if (R E) none (token Z h) (block_ptr b o) len) in
    rewrite ! 3 (λ (d : W.Denot × Ptr × ℕ). ‵ (deed_owns (R E) (token Z d.0) d.1 d.2))
    (λ j. (of_deed.2 j, (of_deed.0 ∙ begins) j, of_deed.1 j)) refl $
    rewrite ! 1 (λ (k : ℕ). ‵ (room_at (R E) b (k * s + o) spare)) of_cells.1 refl $
    rewrite ! 0 (λ (k : ℕ). ‵ (entries_at (R E) b k items)) {x = 0 * s + o} (omega (arith, zero-mul s)) refl $
    take_at ! 2 $ rewrite ! 0 (λ (p : Ptr). ‵ (fat full_share (layout (Bases E)) (l 2) 0 (word p))) begins refl $
    give_at ! 2 $
    use0 𝓛 (‵ (froom (ty_array (elτ E) 0) b o)) (𝓛.laws.room_nil (elτ E) b o) $ move ! (1 ∷ 0 ∷ 2 ∷ 4 ∷ 3 ∷ []) $
    forget_but ! Ev (1 ∷ 2 ∷ 3 ∷ 4 ∷ 7 ∷ []) refl $
    -- The index of the next entry, and the remaining entries.
    let Left : Type 0 = (i : ℕ) × (xs : List X.Denot) × (i + length xs ≡ written) in
    let Fewer : Left → Left → Type 0 = λ t u. length t.1 < length u.1 in
    -- Context: [the remaining entries; the uninitialized memory before them, and after all of them; the resources of
    -- the deed; the handle; the tokens of κ, κ₁ and κ₂; the locals].
    let Now : Left → List (Item 𝓤) = λ t. ‵ (entries_at (R E) b (t.0 * s + o) t.1) ∷ ‵
    (froom (ty_array (elτ E) t.0) b o)
    ∷ ‵ (room_at (R E) b (written * s + o) spare) ∷ Token (len * s == 0) ∷ ‵ (hidden_shr (P E Z) κ h at.0 at.1) ∷ ‵
    (flft κ q) ∷ ‵ (flft κ₁ q₁) ∷ ‵ (flft κ₂ q₂)
    ∷ holding 𝓛 Ev ((1, vptr at.0 at.1) ∷ (2, word (block_ptr b o)) ∷ (3, vint w64 written) ∷ (4, vint w64 len) ∷
    (7, vint w64 t.0) ∷ []) in
    -- A step of the loop leaves fewer entries, or leaves the loop, after which the rest of the code is executed.
    let Turned : Left → After 𝓤 𝓛.H = λ t. any_q (after_turn 𝓤 𝓛.H (Below 𝓛 Fewer Now t)
    (after_block 𝓤 𝓛.H (after_seq 𝓤 𝓛.H
    (Wp 𝓤 𝓛.H 𝓣.C 𝓣.Λ Ev rest (at_return 𝓤 𝓛.H Ev Post)) (at_return 𝓤 𝓛.H Ev Post)))) in
    -- At the end, the tokens remain.
    let exits : Sq 𝓛 (‵ (flft κ q) ∷ ‵ (flft κ₁ q₁) ∷ ‵ (flft κ₂ q₂) ∷ holding 𝓛 Ev [])
    (runs 𝓣.C 𝓣.Λ Ev (after 3 rest) (at_ret Ev Post)) =
    sets ! (of_opd ! (unit_lit !)) refl _ $ returns ! (look_at ! 0 refl) $ free_all ! refl $
    feq_i ! (List Val) (vunit ∷ []) (vunit ∷ []) refl $ nothing ! $ nothing ! $ nothing ! $ nothing ! $ nothing ! $
    nothing ! $
    ends ! (7 ∷ 8 ∷ 9 ∷ 0 ∷ 1 ∷ 2 ∷ 3 ∷ 4 ∷ 5 ∷ 6 ∷ []) En stayed c y vunit tt _ _ refl $ done ! in
    first ! $ blocks ! $ loops ! (tables_of 𝓤 𝓛.H 𝓜 𝓣) Fewer (InvImage.wf (λ (t : Left). length t.1) lt-wf_rel.wf) Now
    (λ t. let i = t.0 in
    sets ! (bin ! (get ! refl) (get ! refl) tt) refl _ $ first ! $ branches ! (get ! refl)
    -- The next entry is dropped.
    (λ less. let more : i < written = ltb→lt i written less in let next = first_of t.1 (omega (arith, t.2)) in let x =
    next.0 in let xs = next.1 in
    let left : suc i + length xs ≡ written = omega (arith, t.2, ap length next.2) in
    let far : i * s < 2 ^ 64 = times_below i len s (2 ^ 64) (omega arith) bytes in
    skips ! $ exec ! 𝓣.C 𝓣.Λ Ev (after 2 turn) (Turned t) $ first ! $ blocks ! $
    sets ! (counted ! i far (get ! refl)) refl (tt, record { fits = far }) $
    sets ! (bin ! (get_in ! (fld ! refl (stop !)) (sub ! 0 refl (whole !))) (get ! refl) tt) refl _ $
    rewrite ! 0 (λ (ys : List X.Denot). ‵ (entries_at (R E) b (i * s + o) ys)) next.2 refl $ fsplit ! $
    use1 𝓛 (some (λ (v : Val). given (Rows.Good rows v)
    (‵ (fat full_share (elτ E) b (i * s + o) v) ⊛ ‵ (X.own_val x (v ∷ [])))))
    (el_out rows 𝓛 full_share x b (i * s + o)) $ pick ! (λ v. learn ! (λ good. split ! $
    sets_last ! (of_opd ! (load ! (through ! refl (stop !)) (look ! 0 refl))) refl good $ exec ! 𝓣.C 𝓣.Λ Ev
    (after 3 turn) (Turned t) $
    sets ! (of_opd ! (get ! refl)) refl good $
    sets ! (is ! (bin ! (get ! refl) (lit ! tt) (record { fits = omega arith })) (ap (vint w64) (one_more i))) refl
    (tt, record { fits = omega arith }) $
    -- Context: [its cell; the entry; the remaining entries; the uninitialized memory before them, and after all of
    -- them; the resources of the deed; the handle; the tokens; the locals]
    forget ! 0 refl $ move ! (3 ∷ 0 ∷ []) $ use2 𝓛 (‵ (froom (ty_array (elτ E) (suc i)) b o))
    (Rows.room_snoc rows 𝓛 b o i) $
    calls_last ! (7 ∷ 1 ∷ []) run (Drops X) (drops X 𝓛) dropped (((κ₁, tt), (q₁, tt), tt, (x, tt), (v ∷ [], tt)), tt)
    (asks_that 𝓤 lives) refl
    (and_then ! (get ! refl) (no_more !)) (λ r ws. []) (λ r ws. id⊢ 𝓤 (emp 𝓤))
    (λ u r ws. feq_l ! (λ unit. lands_last ! refl (unit_fits unit) $
    move ! (1 ∷ []) $ drop ! $ move ! (2 ∷ 1 ∷ 3 ∷ 4 ∷ 5 ∷ 6 ∷ 0 ∷ []) $
    rewrite ! 0 (λ (k : ℕ). ‵ (entries_at (R E) b k xs)) {x = suc i * s + o} (omega (arith, suc-mul i s)) refl $
    forget_but ! Ev (1 ∷ 2 ∷ 3 ∷ 4 ∷ 7 ∷ []) refl $ again ! Fewer Now t (suc i, xs, left)
    (omega (arith, ap length next.2)))))))
    -- All entries are dropped, so the block is uninitialized memory.
    (λ over. let past : written ≤ i = nltb→le i written over in jumps ! $ exec ! 𝓣.C 𝓣.Λ Ev rest (at_ret Ev Post) $
    drop ! $
    rewrite ! 0 (λ (k : ℕ). ‵ (froom (ty_array (elτ E) k) b o)) {x = written} (omega (arith, t.2)) refl $
    use2 𝓛 (‵ (froom (ty_array (elτ E) len) b o)) (room_joined E 𝓛 written spare len b o all) $
    sets ! (counted ! len bytes (get ! refl)) refl (tt, record { fits = bytes }) $
    sets ! (bin ! (get ! refl) (lit ! tt) tt) refl _ $ first ! $ branches ! (get ! refl)
    (λ some. blocks ! $ sets ! (of_opd ! (get_in ! (fld ! refl (stop !)) (sub ! 0 refl (whole !)))) refl _ $
    as_raw ! (ty_array (elτ E) len) b o $ rewrite ! 1 Token (is_false _ some) refl $ group ! 4 $
    let al = capped (align (elτ E)) in let τ = block_ty E len in let x = at_gives Z 𝓛 𝓜.mem 𝓡.returns κ q at h b o
    (len * s) al τ in
    use1 𝓛 (raw ((Gives Z 𝓛 𝓜.mem 𝓡.returns).pre x))
    (Gives-goes Z 𝓛 𝓜.mem 𝓡.returns κ q at h (Incl-trans bounds.0 asked.1.0) b o (len * s) al τ
    (block_size E len bytes) (block_align E len) bytes (capped_fits (align (elτ E)))) $
    calls_at_last ! run (Gives Z 𝓛 𝓜.mem 𝓡.returns) (met.deallocate dd) x
    (and_then ! (get ! refl) (and_then ! (get ! refl)
    (and_then ! (get ! refl) (and_then ! (align_word !) (no_more !))))) (λ v.
    use1 𝓛 (later (given (v ≡ vunit) (‵ (flft κ q)))) (Gives-Gives Z 𝓛 𝓜.mem 𝓡.returns κ q at h b o (len * s) al τ v) $
    await ! tt $
    learn ! (λ unit. lands_last ! refl (unit_fits (ap (λ u. u ∷ []) unit)) $
    exec ! 𝓣.C 𝓣.Λ Ev (after 3 rest) (at_ret Ev Post) $ forget_but ! Ev [] refl $ exits)))
    (λ none. skips ! $ exec ! 𝓣.C 𝓣.Λ Ev (after 3 rest) (at_ret Ev Post) $ drop ! $ drop ! $ drop ! $ forget_but ! Ev
    [] refl $ exits))
    ) (0, items, omega (arith, of_cells.1)))))))
