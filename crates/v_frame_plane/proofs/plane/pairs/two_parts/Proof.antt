-- `two_parts` splits a slice into its front and its back, cuts a part out of each, and lends both parts. Rattle
-- cannot follow a part of a part, so this hand-written proof follows the code.
use Rattle.v_frame_buffer.proofs.Steps.{ℕ, ◌≡◌, ◌+◌, ◌-◌, ◌≤◌, List, [], ◌∷◌, ◌++◌, length, take, list_drop, w64}
use Rattle.v_frame_buffer.proofs.Steps.{MutBor, refl, ap, ◌∙◌, arith, length-drop, proved, sep, ◌⊑◌, fact, tables}
use Rattle.v_frame_buffer.proofs.Steps.{usize, param, layouts, plain, uint_vals, Valss, MutSlice, slice_val, nothing}
use Rattle.v_frame_buffer.proofs.Steps.{framed, Stays, inst_fn, a_type, named, Val, vcons, vnil, vstruct, alloc_all}
use Rattle.v_frame_buffer.proofs.Steps.{free_all, get, get_in, lands_as, look_at, look_in_at, pass_all, sets, ‵, ◌$◌, ! }
use Rattle.v_frame_buffer.proofs.Steps.{done, feq_i, fjoin, fpack, keep, move, rewrite, agg, sub, whole, addr, and_then}
use Rattle.v_frame_buffer.proofs.Steps.{enter, fld, from, hop, no_more, returns, stop, append_assoc, length-take-le}
use Rattle.v_frame_buffer.proofs.Steps.{yes, no, uint_Tells, mut_slice_vals, mut_slice_Tells, shape, within, tuple_type}
use Rattle.v_frame_buffer.proofs.Steps.{stay_dropped, Goes-dropped, Goes-spent_slice, take-take, drop-drop, drop-take}
use Rattle.v_frame_buffer.proofs.Steps.{walk_of, via, mono_r}
use Rattle.core.proofs.slice.slice+T.split_at_mut.Met as split_met
use Rattle.v_frame_raster.specs.Writes.{with_two_parts}
use Rattle.v_frame_plane.specs.FinalRows.{EndsAs}
use Rattle.v_frame_plane.specs.contracts.plane.pairs.two_parts
use Rattle.v_frame_buffer.proofs.CallSteps.{both_facts, ends, opened_by, tells}
use Rattle.v_frame_plane.proofs.lent.Cuts.{both_end, joins, lets_go, pointer_on, slice_on, splits, slice_fits}
use Rattle.v_frame_plane.proofs.lent.Cuts.{slices_fit, word_fits}
use Rattle.v_frame_plane.proofs.plane.pairs.two_parts.Statement.{statement}
use Rattle.v_frame_plane.proofs.plane.pairs.two_parts.Code as code

-- A part of the front is a part of the whole.
part_of_front : {X : Type 0} (xs : List X) (start width next : ℕ) → start + width ≤ next
    → take width (list_drop start (take next xs)) ≡ take width (list_drop start xs)
part_of_front xs start width next order =
    let behind : start + (next - start) ≡ next = omega (arith, order) in
    rw (← behind, drop-take, take-take width (next - start) (list_drop start xs) (omega (arith, order))) refl

pub two_parts_spec : {M : Type 1} → statement M
two_parts_spec 𝓤 𝓛 𝓜 𝓡 wired T laws =
    let item = param 0 T in let args = layouts (a_type ∷ []) (T, tt) in let run = framed 𝓤 𝓛.H 𝓜
    (tables 𝓤 𝓛.H 𝓜 𝓡 𝓡.env) in
    let En = two_parts.ended T in let c = two_parts.clauses T 𝓛 𝓜.mem 𝓡.returns in
    let stay = stay_dropped (plain {n = 2} (λ _. usize)) yes in let gone = Goes-dropped 𝓛 2 (plain (λ _. usize)) yes
    (λ κs x w. refl) in
    let stayed : Stays En.signature.params En.kept = (stay_dropped _ no, (stay, (stay, (stay, (stay, tt))))) in
    proved 𝓛 En stayed c 𝓜 𝓡 (Goes-spent_slice 𝓛 2 (0 ∷ []) tt (plain (λ _. item)), (gone, (gone, (gone, (gone, tt)))))
    (two_parts.Key.name args) (inst_fn args code.function) (code.unfolded 𝓤 𝓛.H 𝓜 𝓡 wired (T, tt))
    (λ κs. (mut_slice_vals, (uint_vals w64, (uint_vals w64, (uint_vals w64, (uint_vals w64, tt)))))) (λ κs. (
      mut_slice_Tells (named 0) κs.0 item,
      (uint_Tells w64, (uint_Tells w64, (uint_Tells w64, (uint_Tells w64, tt)))),
    )) (λ κs qs bounds a g are.
    let κ = κs.0 in let q = qs.0 in let κT = κs.1.0 in let qT = qs.1.0 in let x = a.0 in
    let start = a.1.0 in let width = a.1.1.0 in let next = a.1.1.1.0 in let other = a.1.1.1.1.0 in
    let Slice = MutSlice (named 0) κ item in let held : MutBor (List T.Denot) → Val = λ r. slice_val r.ref_ptr
    (length r.now) in
    let bound : (walk_of 𝓛 En stayed c).Ghost = (
      (
        κs,
        qs,
        bounds,
        a,
        (
          held x ∷ [],
          (
            uint_vals w64 start,
            (uint_vals w64 width, (uint_vals w64 next, (uint_vals w64 other, tt))),
          ),
        ),
      ),
      g,
    ) in
    let Lives = κT ⊑ T.lives in let Order = start + width ≤ next in let Inside = next + other ≤ length x.now in
    let meets = split_met.met 𝓤 𝓛 𝓜 𝓡 (code.calls-core::slice::slice+T::split_at_mut 𝓡.env wired) T laws in
    opened_by 𝓛 En.signature κs qs a bound.0.4 (sep 𝓤 (fact 𝓤 Lives) (sep 𝓤 (fact 𝓤 Order) (fact 𝓤 Inside)))
    (Lives × (Order × Inside))
    (via 𝓤 _ (mono_r 𝓤 (fact 𝓤 Lives) (both_facts 𝓤 Order Inside)) (both_facts 𝓤 Lives (Order × Inside))) (λ asked.
    let lives = asked.0 in let order = asked.1.0 in let inside = asked.1.1 in
    keep ! (2 ∷ 0 ∷ 1 ∷ []) $ enter ! _ _ _ _ _ $ alloc_all ! (λ l.
    pass_all ! refl (
      slice_fits are.0.0.1.0,
      (
        word_fits are.1.0.1,
        (word_fits are.1.1.0.1, (word_fits are.1.1.1.0.1, (word_fits are.1.1.1.1.0.1, tt))),
      ),
    ) $
    -- Context: [the slice; the tokens of κ and κT; the locals]
    sets ! (addr ! (from ! (fld ! refl (hop ! (look_in_at ! 1 (sub ! 0 refl (whole !))) (stop !))))) refl (tt, tt) $
    sets ! (agg ! (and_then ! (get ! refl) (and_then ! (get_in ! (fld ! refl (stop !)) (sub ! 1 refl (whole !)))
    (no_more !)))) refl (slice_fits are.0.0.1.0) $
    splits ! run 𝓜.mem 𝓡.returns T meets κ κT q qT bounds.0 lives x next are.1.1.1.0.1 (omega (arith, inside))
    (and_then ! (get ! refl) (and_then ! (get ! refl) (no_more !))) (λ front back front_is back_is front_fits back_fits.
    lands_as ! refl refl (slices_fit front_fits back_fits) $
    -- Context: [the front; the back; how the slice ends; the tokens; the locals]
    sets ! (pointer_on ! (sub ! 0 refl (whole !)) refl) refl (tt, tt) $ sets !
    (slice_on ! (sub ! 0 refl (whole !)) refl refl) refl (slice_fits front_fits) $
    let front_long : length front.now ≡ next = ap length front_is ∙ length-take-le next x.now (omega (arith, inside)) in
    move ! (0 ∷ 3 ∷ 4 ∷ []) $ splits ! run 𝓜.mem 𝓡.returns T meets κ κT q qT bounds.0 lives front start are.1.0.1
    (omega (arith, order, front_long))
    (and_then ! (get ! refl) (and_then ! (get ! refl) (no_more !))) (λ above rest above_is rest_is above_fits rest_fits.
    lands_as ! refl refl (slices_fit above_fits rest_fits) $
    sets ! (pointer_on ! (sub ! 1 refl (whole !)) refl) refl (tt, tt) $ sets !
    (slice_on ! (sub ! 1 refl (whole !)) refl refl) refl (slice_fits rest_fits) $
    -- Context: [the part above; the rest; how the front ends; the tokens of κ and κT; the back; how the slice ends;
    -- the locals]
    lets_go ! item κ above $
    move ! (1 ∷ 3 ∷ 4 ∷ []) $ splits ! run 𝓜.mem 𝓡.returns T meets κ κT q qT bounds.0 lives rest width are.1.1.0.1
    (omega (arith, order, front_long, ap length rest_is, length-drop start front.now))
    (and_then ! (get ! refl) (and_then ! (get ! refl) (no_more !)))
    (λ first between first_is between_is first_fits between_fits.
    lands_as ! refl refl (slices_fit first_fits between_fits) $
    -- Context: [the first part; the part between; how the rest ends; the tokens of κ and κT; the part above, as it
    -- ends; how the front ends; the back; how the slice ends; the locals]
    move ! (1 ∷ []) $ lets_go ! item κ between $
    sets ! (pointer_on ! (sub ! 1 refl (whole !)) refl) refl (tt, tt) $ sets !
    (slice_on ! (sub ! 1 refl (whole !)) refl refl) refl (slice_fits back_fits) $
    move ! (7 ∷ 3 ∷ 4 ∷ []) $ splits ! run 𝓜.mem 𝓡.returns T meets κ κT q qT bounds.0 lives back other are.1.1.1.1.0.1
    (omega (arith, inside, ap length back_is, length-drop next x.now))
    (and_then ! (get ! refl) (and_then ! (get ! refl) (no_more !)))
    (λ second below second_is below_is second_fits below_fits.
    lands_as ! refl refl (slices_fit second_fits below_fits) $
    -- Context: [the second part; the part below; how the back ends; the tokens of κ and κT; the part between, as it
    -- ends; the first part; how the rest ends; the part above, as it ends; how the front ends, and the slice; the
    -- locals]
    move ! (1 ∷ []) $ lets_go ! item κ below $
    sets ! (pointer_on ! (sub ! 0 refl (whole !)) refl) refl (tt, tt) $ sets !
    (slice_on ! (sub ! 0 refl (whole !)) refl refl) refl (slice_fits first_fits) $
    sets ! (pointer_on ! (sub ! 0 refl (whole !)) refl) refl (tt, tt) $ sets !
    (slice_on ! (sub ! 0 refl (whole !)) refl refl) refl (slice_fits second_fits) $
    sets ! (agg ! (and_then ! (get ! refl) (and_then ! (get ! refl) (no_more !)))) refl
    (slices_fit first_fits second_fits) $
    returns ! (look_at ! 0 refl) $ free_all ! refl $
    let of_rest : rest.now ≡ list_drop start (take next x.now) = rest_is ∙ ap (list_drop start) front_is in
    let written : (p r : List T.Denot) → (above.now ++ (p ++ between.now)) ++ (r ++ below.now) ≡ with_two_parts x.now
    start width next other p r =
    λ p r. simp (
      above_is,
      between_is,
      below_is,
      of_rest,
      front_is,
      back_is,
      take-take start next x.now
          (omega (arith, order)),
      drop-drop,
      append_assoc,
    ) in
    let Both = Slice ∷ Slice ∷ [] in let out = vstruct (vcons (held first) (vcons (held second) vnil)) in
    nothing ! $ move ! (2 ∷ 0 ∷ []) $ fjoin ! $ move ! (6 ∷ 0 ∷ []) $ fjoin ! $ feq_i ! (List Val) (out ∷ [])
    (out ∷ []) refl $ fjoin ! $
    fpack ! (Valss Both) (within (shape (tuple_type Both)) (first, (second, tt)) (out ∷ []))
    (held first ∷ [], (held second ∷ [], tt)) $
    nothing ! $ nothing ! $ nothing ! $ nothing ! $ nothing ! $
    ends ! (8 ∷ 9 ∷ 0 ∷ 1 ∷ 2 ∷ 3 ∷ 4 ∷ 5 ∷ []) En stayed c bound out (first, second) (tt, (tt, (tt, (tt, (tt, tt)))))
    (tt, (tt, (tt, (tt, (tt, tt))))) refl $
    tells ! (first_is ∙ ap (take width) of_rest ∙ part_of_front x.now start width next order) $ tells !
    (second_is ∙ ap (take other) back_is) $
    both_end ! item x.ghost_name (with_two_parts x.now start width next other) (λ p r.
    -- Context: [how both parts end; the part below, as it ends; how the back ends; the part between; how the rest
    -- ends; the part above; how the front ends, and the slice]
    move ! (5 ∷ 0 ∷ 4 ∷ []) $ joins ! item _ _ $ move ! (5 ∷ 4 ∷ 0 ∷ []) $ joins ! item _ _ $ move ! (3 ∷ 1 ∷ 2 ∷ []) $
    joins ! item _ _ $
    move ! (2 ∷ 1 ∷ 0 ∷ []) $ joins ! item _ _ $ rewrite ! 0 (λ ys. ‵ (EndsAs item x.ghost_name ys)) (written p r) refl
    $ done !))))))))
