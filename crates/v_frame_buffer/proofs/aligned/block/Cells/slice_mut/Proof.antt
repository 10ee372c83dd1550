-- `slice_mut` lends a part of the entries as a slice. The final cells have the final value of the slice in place of
-- this part. Assumes `Logic`.
use Rattle.v_frame_buffer.proofs.Steps.{◌≡◌, refl, sym, ap, ◌∙◌, ◌+◌, ◌-◌, ◌*◌, ◌^◌, ◌<◌, ◌≤◌, arith, List, [], ◌∷◌}
use Rattle.v_frame_buffer.proofs.Steps.{length, take, list_drop as drop, vint, length-drop, a_type, named, w64, inst_fn}
use Rattle.v_frame_buffer.proofs.Steps.{vptr, id⊢, fat, flft, full_share, tables, ‵, ◌⊛◌, some, later, at_ret, ◌$◌, ! }
use Rattle.v_frame_buffer.proofs.Steps.{move, keep, split, split3, group, pick, await, use1, fsplit, fsplit3, rewrite}
use Rattle.v_frame_buffer.proofs.Steps.{done, sem, whole, sub, agg, stop, fld, of_opd, bin, and_then, no_more, first}
use Rattle.v_frame_buffer.proofs.Steps.{exec, returns, enter, alloc_all, pass_all, free_all, look_at, get, get_in, sets}
use Rattle.v_frame_buffer.proofs.Steps.{env, Array, usize, yes, no, mem, param, layouts, param_laws, uint_vals}
use Rattle.v_frame_buffer.proofs.Steps.{uint_Tells, Valss, MutBor, mut_vals, mut_Tells, plain, MutSlice, slice_val}
use Rattle.v_frame_buffer.proofs.Steps.{nothing, opens, Stays, walk_of, stay_dropped, Goes-dropped, after, proved}
use Rattle.v_frame_buffer.proofs.Steps.{never, GName, at_mul, flt_l, cells, blocks, sets_last, take_at, give_at, is}
use Rattle.v_frame_buffer.proofs.Steps.{follows, layout, Ptr, in_a_block, types_at, says, Goes-spent_ref, times_below}
use Rattle.v_frame_buffer.proofs.Steps.{type_size, word, word-Good}
use Rattle.v_frame_buffer.proofs.CallSteps.{both_facts, ends, opened_by}
use Rattle.v_frame_buffer.proofs.block.BlockRooms.{one_more_fact, counted}
use borrow.Table.Elements.{length-take-le}
use denote.FollowSlice.{lends_Elements}
use Rattle.v_frame_buffer.specs.Block.{cells_own}
use Rattle.v_frame_buffer.specs.contracts.aligned.block.Base.{the_row as Base}
use Rattle.v_frame_buffer.specs.contracts.aligned.block.Cells.{the_row as Cells}
use Rattle.v_frame_buffer.specs.contracts.aligned.block.Cells.slice_mut.{ended, clauses}
use Rattle.v_frame_buffer.specs.contracts.aligned.block.Cells.slice_mut.Key.{name as #self}
use Rattle.v_frame_buffer.proofs.block.BlockParts as parts
use Rattle.v_frame_buffer.proofs.aligned.block.Base.TheLaws.{lowers}
use Rattle.v_frame_buffer.proofs.aligned.block.Cells.slice_mut.Statement.{statement}
use Rattle.v_frame_buffer.proofs.aligned.block.Cells.slice_mut.Code as code

pub slice_mut_spec : {M : Type 1} → statement M
slice_mut_spec 𝓤 𝓛 𝓜 𝓡 wired T L =
    let R = param 0 T in let base_at = lowers R (param_laws 0 T L) in let s = type_size R in let 𝓣 = tables 𝓤 𝓛.H 𝓜 𝓡
    𝓡.env in
    let En = ended T in let c = clauses T 𝓛 𝓜.mem 𝓡.returns in let inst = layouts (a_type ∷ []) (T, tt) in let fn =
    inst_fn inst code.function in
    let stayed : Stays En.signature.params En.kept =
    (stay_dropped _ no, (stay_dropped _ no, (stay_dropped _ yes, (stay_dropped _ yes, tt)))) in
    let gone = Goes-dropped 𝓛 2 (plain (λ _. usize)) yes (λ κs x w. refl) in
    proved 𝓛 En stayed c 𝓜 𝓡 (
      Goes-spent_ref 𝓛 2 (0 ∷ []) tt (plain (λ _. Cells R)),
      (Goes-dropped 𝓛 2 (plain (λ _. Base R)) no (λ κs x w. refl), (gone, (gone, tt))),
    )
    (#self inst) fn (code.unfolded 𝓤 𝓛.H 𝓜 𝓡 wired (T, tt)) _
    (λ κs. (mut_Tells (named 0) κs.0 (Cells R), (base_at.val_is, (uint_Tells w64, (uint_Tells w64, tt)))))
    (λ κs qs bounds a gh are.
    let d = a.0.now in let xs = d.items in let start = a.1.1.0 in let end = a.1.1.1.0 in let n = end - start in
    let rb = a.0.ref_ptr.0 in let ro = a.0.ref_ptr.1 in let γ = a.0.ghost_name in let κ = κs.0 in let q = qs.0 in
    let words : Valss (types_at En.signature.params κs) =
    (mut_vals a.0, (base_at.lowered a.1.0 ∷ [], (uint_vals w64 start, (uint_vals w64 end, tt)))) in
    let y : (walk_of 𝓛 En stayed c).Ghost = ((κs, qs, bounds, a, words), gh) in
    let start_fits : start < 2 ^ 64 = are.1.1.0.1 in let end_fits : end < 2 ^ 64 = are.1.1.1.0.1 in
    opened_by 𝓛 En.signature κs qs a words _ _ (one_more_fact 𝓤 _ (one_more_fact 𝓤 _ (both_facts 𝓤 _ _))) (λ asked.
    let here : a.1.0.ptr ≡ d.at = asked.1.0 in let ordered : start ≤ end = asked.1.1.0 in let inside : end ≤ length xs
    = asked.1.1.1 in
    move ! (2 ∷ []) $ fsplit3 ! $ keep ! (1 ∷ 2 ∷ 3 ∷ 4 ∷ []) $
    enter ! _ _ _ _ _ $
    alloc_all ! (λ l. pass_all ! refl (
      _,
      (
        word-Good [] a.1.0.ptr,
        ((tt, record { fits = start_fits }), ((tt, record { fits = end_fits }), tt)),
      ),
    ) $
    -- Context: [the observed value of the name; the borrow; the tokens of κ and of the entries; the locals]
    opens ! tt (Cells R) {h = d} rb ro (λ vs. move ! (1 ∷ []) $ fsplit ! $ move ! (1 ∷ []) $
    in_a_block ! d.at (λ p. cells_own R p xs d.spare) (id⊢ 𝓤 (never 𝓤))
    (λ b o e. fsplit ! $ flt_l ! (λ small. fsplit ! $
    -- Context: [the entries; the uninitialized memory; the marker; its cell; the three parts of the borrow, which is
    -- open; the other token; the locals]
    let part = take n (drop start xs) in let at = parts.from R d start o in
    let within : start + n ≤ length xs = omega (arith, ordered, inside) in
    let count : length part ≡ n = length-take-le n (drop start xs) (omega (arith, within, length-drop start xs)) in
    let brief : length part < 2 ^ 64 = omega (arith, count, end_fits) in
    let far : start * s < 2 ^ 64 = omega (
      arith,
      times_below start (length xs + d.spare) s (2 ^ 63)
          (omega (arith, within)) small,
    ) in
    let there : start * s + o ≡ at =
    ap (λ k. k * s + o) (sym (length-take-le start xs (omega (arith, within)))) ∙ sym
    (at_mul o s (length (take start xs))) in
    take_at ! 2 $ rewrite ! 0 (λ (p : Ptr). ‵ (fat full_share (layout (Base R)) (l 2) 0 (word p))) (here ∙ e) refl $
    give_at ! 2 $
    first ! $ blocks ! $ sets ! (counted ! start far (get ! refl)) refl (tt, record { fits = far }) $
    sets ! (is ! (bin ! (get_in ! (fld ! refl (stop !)) (sub ! 0 refl (whole !))) (get ! refl) tt) (ap (vptr b) there))
    refl _ $
    sets ! (is ! (bin ! (get ! refl) (get ! refl) ordered) (ap (vint w64) (sym count))) refl
    (tt, record { fits = brief }) $
    sets_last ! (agg ! (and_then ! (get ! refl) (and_then ! (get ! refl) (no_more !)))) refl
    (tt, (tt, (record { fits = brief }, tt))) $
    exec ! 𝓣.C 𝓣.Λ (env fn.locals l) (after 1 fn.body) (at_ret _ ((walk_of 𝓛 En stayed c).post y)) $
    sets ! (of_opd ! (get ! refl)) refl (tt, (tt, (record { fits = brief }, tt))) $
    use1 𝓛 (‵ (cells (mem R) part b at) ⊛ ‵ (parts.Others R d start b o n)) (parts.part_out R d start b o n 𝓛 within) $
    split ! $ move ! (1 ∷ 2 ∷ 3 ∷ 4 ∷ []) $ group ! 4 $ move ! (2 ∷ 3 ∷ 4 ∷ 1 ∷ 0 ∷ []) $ group ! 5 $
    let slice : GName → MutBor (List R.Denot) = λ δ. record { ref_ptr = (b, at); ghost_name = δ; now = part } in let F
    = parts.rewritten R d start in
    let v = slice_val (b, at) (length part) in let code = (Cells R).coded.code d in
    let bytes = times_below (length part) (length xs + d.spare) s (2 ^ 63) (omega (arith, count, within)) small in
    use1 𝓛 (later (some (λ (δ : GName). ‵ ((MutSlice (named 0) κ R).own_val (slice δ) (v ∷ [])) ⊛ ‵ (flft κ q) ⊛ ‵
    (follows (Cells R) (Array R 0) γ δ F))))
    (lends_Elements 𝓛 (Cells R) R F (named 0) κ q rb ro b at γ part (brief, bytes)
    (sem 𝓛 (parts.Around R d start b o n vs rb ro))
    (λ ws same. parts.part_in R d start b o n 𝓛 vs rb ro e small within ws (same ∙ count)) code code) $ await ! tt $
    pick ! (λ δ.
    returns ! (look_at ! 0 refl) $ free_all ! refl $ split3 ! $
    -- Context: [the slice; the token of κ; how the cells follow its last list; the other token]
    nothing ! $ nothing ! $ nothing ! $ nothing ! $
    ends ! (5 ∷ 7 ∷ 0 ∷ 1 ∷ 2 ∷ 3 ∷ 4 ∷ 6 ∷ []) En stayed c y v (slice δ) _ _ refl $ says ! refl $ done !)))))))
