-- `slice` returns the entries that the `&` to the cells reaches. Assumes `Logic`.
use Rattle.v_frame_buffer.proofs.Steps.{◌≡◌, refl, sym, ap, ◌∙◌, ◌+◌, ◌*◌, ◌^◌, ◌<◌, arith, List, [], ◌∷◌, length}
use Rattle.v_frame_buffer.proofs.Steps.{a_type, named, w64, inst_fn, Val, id⊢, Lft, Fml, tables, ‵, at_ret, ◌$◌, ! }
use Rattle.v_frame_buffer.proofs.Steps.{keep, drop, fsplit, fjoin, feq_i, rewrite, whole, sub, agg, stop, fld, of_opd}
use Rattle.v_frame_buffer.proofs.Steps.{and_then, no_more, first, exec, returns, enter, alloc_all, pass_all, free_all}
use Rattle.v_frame_buffer.proofs.Steps.{look_at, get, get_in, sets, env, usize, yes, no, param, layouts, param_laws}
use Rattle.v_frame_buffer.proofs.Steps.{uint_vals, uint_Tells, Valss, plain, slice_val, nothing, Stays, walk_of}
use Rattle.v_frame_buffer.proofs.Steps.{stay_dropped, Goes-dropped, after, proved, never, flt_l, flt_i, blocks}
use Rattle.v_frame_buffer.proofs.Steps.{sets_last, is, RefOf, ptr_val, in_a_block, shr_vals, shr_Tells, types_at}
use Rattle.v_frame_buffer.proofs.Steps.{times_below, type_size, word-Good, hide, unhide}
use Rattle.v_frame_buffer.proofs.CallSteps.{both_facts, ends, opened_by, told}
use Rattle.v_frame_buffer.specs.Block.{cells_lent}
use Rattle.v_frame_buffer.specs.contracts.aligned.block.Base.{the_row as Base}
use Rattle.v_frame_buffer.specs.contracts.aligned.block.Cells.{the_row as Cells}
use Rattle.v_frame_buffer.specs.contracts.aligned.block.Cells.slice.{ended, clauses}
use Rattle.v_frame_buffer.specs.contracts.aligned.block.Cells.slice.Key.{name as #self}
use Rattle.v_frame_buffer.proofs.block.BlockEntries.{lent_are_shared}
use Rattle.v_frame_buffer.proofs.aligned.block.Base.TheLaws.{lowers}
use Rattle.v_frame_buffer.proofs.aligned.block.Cells.slice.Statement.{statement}
use Rattle.v_frame_buffer.proofs.aligned.block.Cells.slice.Code as code

pub slice_spec : {M : Type 1} → statement M
slice_spec 𝓤 𝓛 𝓜 𝓡 wired T L =
    let R = param 0 T in let base = lowers R (param_laws 0 T L) in let s = type_size R in let 𝓣 = tables 𝓤 𝓛.H 𝓜 𝓡
    𝓡.env in
    let En = ended T in let c = clauses T 𝓛 𝓜.mem 𝓡.returns in let inst = layouts (a_type ∷ []) (T, tt) in let fn =
    inst_fn inst code.function in
    let stayed : Stays En.signature.params En.kept =
    (stay_dropped _ yes, (stay_dropped _ no, (stay_dropped _ yes, tt))) in
    proved 𝓛 En stayed c 𝓜 𝓡 (
      Goes-dropped 𝓛 2 (RefOf (0 ∷ []) tt (plain (λ _. Cells R)) (λ _. tt)) yes (λ κs x w. refl),
      (
        Goes-dropped 𝓛 2 (plain (λ _. Base R)) no (λ κs x w. refl),
        (Goes-dropped 𝓛 2 (plain (λ _. usize)) yes (λ κs x w. refl), tt),
      ),
    )
    (#self inst) fn (code.unfolded 𝓤 𝓛.H 𝓜 𝓡 wired (T, tt)) _
    (λ κs. (shr_Tells (named 0) κs.0 (Cells R), (base.val_is, (uint_Tells w64, tt))))
    (λ κs qs bounds a gh are.
    let d = a.0.now in let xs = d.items in let len = a.1.1.0 in
    let words : Valss (types_at En.signature.params κs) =
    (shr_vals a.0, (base.lowered a.1.0 ∷ [], (uint_vals w64 len, tt))) in
    let y : (walk_of 𝓛 En stayed c).Ghost = ((κs, qs, bounds, a, words), gh) in let fits : len < 2 ^ 64 = are.1.1.0.1 in
    opened_by 𝓛 En.signature κs qs a words _ _ (both_facts 𝓤 _ _)
    (λ asked. let begins = asked.1.0 in let count : length xs ≡ len = asked.1.1 in
    keep ! (2 ∷ 0 ∷ 1 ∷ []) $ fsplit ! $ drop ! $ enter ! _ _ _ _ _ $
    alloc_all ! (λ l. pass_all ! refl (_, (word-Good [] a.1.0.ptr, ((tt, record { fits = fits }), tt))) $
    unhide ! $ fsplit ! $ drop ! $ in_a_block ! d.at (λ p. cells_lent R p xs d.spare κs.0) (id⊢ 𝓤 (never 𝓤))
    (λ b o e. fsplit ! $ flt_l ! (λ small.
    -- Context: [the lent entries; the tokens; the locals]
    let v = slice_val (b, o) len in first ! $ blocks ! $
    sets ! (is ! (of_opd ! (get_in ! (fld ! refl (stop !)) (sub ! 0 refl (whole !)))) (ap ptr_val (begins ∙ e))) refl _
    $
    sets_last ! (agg ! (and_then ! (get ! refl) (and_then ! (get ! refl) (no_more !)))) refl
    (tt, (tt, (record { fits = fits }, tt))) $
    exec ! 𝓣.C 𝓣.Λ (env fn.locals l) (after 1 fn.body) (at_ret _ ((walk_of 𝓛 En stayed c).post y)) $
    sets ! (of_opd ! (get ! refl)) refl (tt, (tt, (record { fits = fits }, tt))) $ returns ! (look_at ! 0 refl) $
    free_all ! refl $
    rewrite ! 0 (λ (f : Lft → Fml). ‵ (f κs.0)) (lent_are_shared R b xs o) refl $ hide ! $
    flt_i ! (length xs * s) (2 ^ 63) (times_below (length xs) (length xs + d.spare) s (2 ^ 63) (omega arith) small) $
    flt_i ! (length xs) (2 ^ 64) (omega arith) $ fjoin ! $
    feq_i ! (List Val) (v ∷ []) (slice_val (b, o) (length xs) ∷ []) (ap (λ n. slice_val (b, o) n ∷ []) (sym count)) $
    fjoin ! $ fjoin ! $
    nothing ! $ nothing ! $ nothing ! $
    ends ! (4 ∷ 5 ∷ 0 ∷ 1 ∷ 2 ∷ 3 ∷ []) En stayed c y v (record { ref_ptr = (b, o); now = xs }) _ _ refl $ told !
    refl)))))
