-- `write_next` turns the first uninitialized place into an entry after the others. Assumes `Logic`.
use Rattle.v_frame_buffer.proofs.Steps.{◌≡◌, refl, sym, ap, ◌∙◌, ℕ, ◌+◌, ◌-◌, ◌*◌, ◌^◌, ◌<◌, arith, List, [], ◌∷◌, ◌++◌}
use Rattle.v_frame_buffer.proofs.Steps.{length, a_type, inst_fn, Val, vptr, full_share, SProp, id⊢, fat, tables, ‵}
use Rattle.v_frame_buffer.proofs.Steps.{prop, ◌⊛◌, at_ret, ◌$◌, !, move, keep, split, use1, use2, fsplit, fsplit3}
use Rattle.v_frame_buffer.proofs.Steps.{fjoin, fjoin3, feq_i, rewrite, whole, sub, stop, fld, of_opd, bin, first, exec}
use Rattle.v_frame_buffer.proofs.Steps.{returns, enter, alloc_all, pass_all, free_all, look_at, get, get_in, through}
use Rattle.v_frame_buffer.proofs.Steps.{sets, env, usize, yes, no, param, layouts, param_laws, plain, nothing, opens}
use Rattle.v_frame_buffer.proofs.Steps.{closes, Stays, walk_of, stay_ref, stay_dropped, Goes-ref, Goes-dropped, after}
use Rattle.v_frame_buffer.proofs.Steps.{subst, suc, suc-mul, length-append, vunit, never, froom, part_in, WpFn, regoal}
use Rattle.v_frame_buffer.proofs.Steps.{flt_l, flt_i, init, unit_lit, assigns_last, blocks, take_at, give_at, part_at}
use Rattle.v_frame_buffer.proofs.Steps.{layout, Ptr, in_a_block, times_below, proved_at, type_size, word, word-Good}
use Rattle.v_frame_buffer.proofs.CallSteps.{both_facts, ends, opened_by, told, tells}
use Rattle.v_frame_buffer.proofs.block.BlockRooms.{counted}
use Rattle.core.proofs.mem.Param.{one as one_of}
use Rattle.v_frame_buffer.specs.Block.{entries_at, room_at, cells_own}
use Rattle.v_frame_buffer.specs.contracts.aligned.block.Base.{the_row as Base}
use Rattle.v_frame_buffer.specs.contracts.aligned.block.Cells.{the_row as Cells}
use Rattle.v_frame_buffer.specs.contracts.aligned.block.Cells.write_next.{ended, clauses}
use Rattle.v_frame_buffer.specs.contracts.aligned.block.Cells.write_next.Key.{name as #self}
use Rattle.v_frame_buffer.proofs.block.BlockEntries.{first_place, put_last}
use Rattle.v_frame_buffer.proofs.aligned.block.Base.TheLaws.{lowers}
use Rattle.v_frame_buffer.proofs.aligned.block.Cells.write_next.Statement.{statement}
use Rattle.v_frame_buffer.proofs.aligned.block.Cells.write_next.Code as code

pub write_next_spec : {M : Type 1} → statement M
write_next_spec 𝓤 𝓛 𝓜 𝓡 wired T L =
    let R = param 0 T in let LR = param_laws 0 T L in let τ = layout R in let s = type_size R in let 𝓣 = tables 𝓤 𝓛.H 𝓜
    𝓡 𝓡.env in
    let En = ended T in let c = clauses T 𝓛 𝓜.mem 𝓡.returns in let inst = layouts (a_type ∷ []) (T, tt) in let fn =
    inst_fn inst code.function in
    let stayed : Stays En.signature.params En.kept =
    (stay_ref (0 ∷ []) tt (plain (λ _. Cells R)), (stay_dropped _ no, (stay_dropped _ yes, (stay_dropped _ no, tt)))) in
    let base_goes = Goes-dropped 𝓛 2 (plain (λ _. Base R)) no (λ κs x w. refl) in let number = Goes-dropped 𝓛 2
    (plain (λ _. usize)) yes (λ κs x w. refl) in
    proved_at 𝓛 En stayed c 𝓜 𝓡 (
      Goes-ref 𝓛 2 0 tt (plain (λ _. Cells R)),
      (
        base_goes,
        (number, (Goes-dropped 𝓛 2 (plain (λ _. R)) no (λ κs x w. refl), tt)),
      ),
    )
    (#self inst) fn (code.unfolded 𝓤 𝓛.H 𝓜 𝓡 wired (T, tt)) (λ y are.
    let κs = y.0.0 in let a = y.0.3 in let vss = y.0.4 in let d = a.0.now in let xs = d.items in let place = a.1.1.0 in
    let x = a.1.1.1.0 in
    let rb = a.0.ref_ptr.0 in let ro = a.0.ref_ptr.1 in let Post : Val → SProp 𝓤 = (walk_of 𝓛 En stayed c).post y in
    -- x has a single machine value v.
    let one = one_of (record { row = T; laws = L }) vss.1.1.1.0 ((LR.lawful 𝓛).typed x vss.1.1.1.0 are.1.1.1.0) in let
    v = one.0 in let good = one.2 in
    let base_is = (lowers R LR).val_is a.1.0 vss.1.0 are.1.0 in
    opened_by 𝓛 En.signature κs y.0.1 a vss _ _ (both_facts 𝓤 _ _) (λ said. let asked = said.1 in
    move ! (2 ∷ []) $ fsplit3 ! $ keep ! (1 ∷ 2 ∷ 3 ∷ 7 ∷ 4 ∷ []) $
    rewrite ! 3 (λ (us : List Val). ‵ (R.own_val x us)) one.1 refl $
    regoal ! (λ (us : List Val). prop (WpFn 𝓤 𝓛.H 𝓣.C 𝓣.Λ fn us Post))
    (λ i. are.0.0 i ++ (base_is i ++ (are.1.1.0.0 i ++ (one.1 i ++ [])))) refl $
    enter ! _ _ _ _ _ $ alloc_all ! (λ l. pass_all ! refl
    (_, (word-Good [] a.1.0.ptr, ((tt, record { fits = are.1.1.0.1 }), (good, tt)))) $
    -- Context: [the observed value of the name; the borrow; the token; the resources of x; the other token; the
    -- locals]
    opens ! tt (Cells R) {h = d} rb ro (λ vs. move ! (1 ∷ []) $ fsplit ! $ move ! (1 ∷ []) $
    in_a_block ! d.at (λ p. cells_own R p xs d.spare) (id⊢ 𝓤 (never 𝓤))
    (λ b o e. fsplit ! $ flt_l ! (λ small. fsplit ! $ move ! (1 ∷ []) $
    -- Context: [the uninitialized memory; the entries; the marker; its cell; the three parts of the borrow, which is
    -- open; the resources of x; the other token; the locals]
    let left = d.spare - 1 in let more : suc left ≡ d.spare = omega (arith, asked.2) in
    let far : place * s < 2 ^ 64 = omega (
      arith,
      times_below place (length xs + d.spare) s (2 ^ 63)
          (omega (arith, asked.1)) small,
    ) in
    let at = place * s + o in let ys = xs ++ x ∷ [] in let new : (Cells R).Denot = record
    { mark = d.mark; at = d.at; items = ys; spare = left } in
    let longer : length ys ≡ suc (length xs) = omega (arith, length-append xs (x ∷ [])) in
    let beyond : at + s ≡ length ys * s + o = omega
    (arith, ap (λ n. n * s) asked.1, ap (λ n. n * s) longer, suc-mul (length xs) s) in
    let same : length xs + d.spare ≡ length ys + left = omega (arith, more, longer) in
    rewrite ! 0 (λ (n : ℕ). ‵ (room_at R b (n * s + o) d.spare)) asked.1 refl $ rewrite ! 0
    (λ (n : ℕ). ‵ (room_at R b at n)) (sym more) refl $
    use1 𝓛 (‵ (froom τ b at) ⊛ ‵ (room_at R b (at + s) left)) (first_place R 𝓛 b at left) $ split ! $
    take_at ! 2 $ rewrite ! 0 (λ (p : Ptr). ‵ (fat full_share (layout (Base R)) (l 2) 0 (word p))) (asked.0 ∙ e) refl $
    give_at ! 2 $
    -- Context: [the place; the uninitialized memory after it; the entries; ..]
    first ! $ blocks ! $ sets ! (counted ! place far (get ! refl)) refl (tt, record { fits = far }) $
    sets ! (bin ! (get_in ! (fld ! refl (stop !)) (sub ! 0 refl (whole !))) (get ! refl) tt) refl _ $
    sets ! (of_opd ! (get ! refl)) refl good $ assigns_last ! (of_opd ! (get ! refl)) (through ! refl (stop !))
    (init ! 0 refl good) $
    exec ! 𝓣.C 𝓣.Λ (env fn.locals l) (after 1 fn.body) (at_ret _ Post) $ sets ! (of_opd ! (unit_lit !)) refl _ $
    move ! (0 ∷ 8 ∷ []) $ use2 𝓛 (‵ (part_at R full_share x b at)) (part_in 𝓛 R refl full_share x b at v) $
    move ! (2 ∷ 0 ∷ []) $ use2 𝓛 (‵ (entries_at R b o ys))
    (put_last R 𝓛 b xs x o at (ap (λ n. n * s + o) (sym asked.1))) $
    -- Context: [the entries with x at the end; the uninitialized memory; the marker; its cell; the three parts of the
    -- borrow, which is open; the other token; the locals]
    move ! (1 ∷ []) $ rewrite ! 0 (λ (n : ℕ). ‵ (room_at R b n left)) beyond refl $
    move ! (1 ∷ 0 ∷ []) $ fjoin ! $ flt_i ! ((length ys + left) * s) (2 ^ 63) (subst (λ n. n * s < 2 ^ 63) same small)
    $ fjoin ! $
    rewrite ! 0 (λ (p : Ptr). ‵ (cells_own R p ys left)) (sym e) refl $ move ! (1 ∷ 0 ∷ []) $ fjoin ! $
    move ! (1 ∷ 0 ∷ []) $ closes ! tt (Cells R) new vs rb ro $ returns ! (look_at ! 0 refl) $ free_all ! refl $
    -- Context: [the observed value of the name; the borrow; the tokens]
    feq_i ! (List Val) vss.0 (vptr rb ro ∷ []) are.0.0 $ fjoin3 ! $ feq_i ! (List Val) (vunit ∷ []) (vunit ∷ []) refl $
    nothing ! $ nothing ! $ nothing ! $
    ends ! (5 ∷ 6 ∷ 4 ∷ 0 ∷ 1 ∷ 2 ∷ 3 ∷ []) En stayed c y vunit tt (new, _) _ refl $
    tells ! (refl, refl) $ told ! (omega (arith, more))))))))
