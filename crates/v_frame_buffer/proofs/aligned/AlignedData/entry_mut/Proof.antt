-- `entry_mut` lends an entry of the slice that `as_mut_slice` lends. Rattle cannot follow a loan of a loan, so this
-- hand-written proof follows the code. Assumes `Logic`.
use Rattle.v_frame_buffer.proofs.Steps.{◌≡◌, ◌<◌, List, [], ◌∷◌, length, ℕ, Some, w64, refl, sym, ap, ◌∙◌, proved, id⊢}
use Rattle.v_frame_buffer.proofs.Steps.{fact, tables, Array, usize, yes, no, shows, param, layouts, uint_vals}
use Rattle.v_frame_buffer.proofs.Steps.{uint_Tells, MutRef, mut_vals, Valss, types_at, mut_Tells, plain, MutSlice}
use Rattle.v_frame_buffer.proofs.Steps.{nothing, peeks, heard, framed, Stays, stay_dropped, Goes-dropped, inst_fn}
use Rattle.v_frame_buffer.proofs.Steps.{a_type, named, alloc_all, pass_all, free_all, look_at, get, through, sets}
use Rattle.v_frame_buffer.proofs.Steps.{lands_as, ‵, raw, ◌$◌, !, done, move, use2, rewrite, enter, addr, stop, no_more}
use Rattle.v_frame_buffer.proofs.Steps.{and_then, returns, slice_get, slice_set, subst, length-set, refill, follows}
use Rattle.v_frame_buffer.proofs.Steps.{follows_then, mut_Lawful, mut_slice_Lawful, Goes-spent_ref, says, keep}
use Rattle.std.proofs.lemmas.List.{take_at}
use Rattle.v_frame_buffer.proofs.CallSteps.{asks_both, asks_that, both_facts, calls, ends, opened_by}
use Rattle.v_frame_buffer.specs.contracts.aligned.AlignedData.{the_row}
use Rattle.v_frame_buffer.specs.contracts.aligned.AlignedData.as_mut_slice
use Rattle.v_frame_buffer.proofs.aligned.AlignedData.as_mut_slice.Met as slice_met
use Rattle.v_frame_buffer.specs.contracts.aligned.entry_of
use Rattle.v_frame_buffer.proofs.aligned.entry_of.Met as entry_met
use Rattle.v_frame_buffer.specs.contracts.aligned.AlignedData.entry_mut
use Rattle.v_frame_buffer.proofs.aligned.AlignedData.entry_mut.Statement.{statement}
use Rattle.v_frame_buffer.proofs.aligned.AlignedData.entry_mut.Code as code

-- Setting an entry keeps the length of a list, so the list is neither cut nor extended.
same_length : {X : Type 0} (ys xs : List X) (k : ℕ) → ys ≡ xs → (λ x. refill (length xs) xs (slice_set ys k x)) ≡
    slice_set xs k
same_length ys xs k same i x =
    let kept : refill (length xs) xs (slice_set ys k x) ≡ slice_set xs k x = rw same
    (take_at (slice_set xs k x) _ (length xs) (length-set xs k x)) in kept i

pub entry_mut_spec : {M : Type 1} → statement M
entry_mut_spec 𝓤 𝓛 𝓜 𝓡 wired T laws =
    let R = param 0 T in let inst = layouts (a_type ∷ []) (T, tt) in let run = framed 𝓤 𝓛.H 𝓜 (tables 𝓤 𝓛.H 𝓜 𝓡 𝓡.env)
    in
    let En = entry_mut.ended T in let c = entry_mut.clauses T 𝓛 𝓜.mem 𝓡.returns in let Data = the_row R in
    let stayed : Stays En.signature.params En.kept = (stay_dropped _ no, (stay_dropped _ yes, tt)) in
    proved 𝓛 En stayed c 𝓜 𝓡 (
      Goes-spent_ref 𝓛 2 (0 ∷ []) tt (plain (λ _. Data)),
      (Goes-dropped 𝓛 2 (plain (λ _. usize)) yes (λ κs x w. refl), tt),
    )
    (entry_mut.Key.name inst) (inst_fn inst code.function) (code.unfolded 𝓤 𝓛.H 𝓜 𝓡 wired (T, tt)) _
    (λ κs. (mut_Tells (named 0) κs.0 Data, (uint_Tells w64, tt))) (λ κs qs bounds a g are.
    let self = a.0 in let k = a.1.0 in let All = MutSlice (named 0) κs.0 R in let One = MutRef (named 0) κs.0 R in
    let words : Valss (types_at En.signature.params κs) = (mut_vals self, (uint_vals w64 k, tt)) in
    opened_by 𝓛 En.signature κs qs a words _ _ (both_facts 𝓤 _ _) (λ asked.
    enter ! _ _ _ _ _ $ alloc_all ! (λ l. pass_all ! refl (_, ((tt, record { fits = are.1.0.1 }), tt)) $
    sets ! (addr ! (through ! refl (stop !))) refl _ $
    -- Context: [the tokens of the lifetimes; self; the place; the locals]
    calls ! (0 ∷ 1 ∷ 2 ∷ []) run (as_mut_slice.ended T) (as_mut_slice.clauses T 𝓛 𝓜.mem 𝓡.returns)
    (slice_met.met 𝓤 𝓛 𝓜 𝓡 (code.calls-v_frame_buffer::aligned::AlignedData::as_mut_slice 𝓡.env wired) T laws)
    ((κs, qs, bounds, (self, tt), (mut_vals self, tt)), tt) (asks_that 𝓤 asked.0) refl
    (and_then ! (get ! refl) (no_more !))
    (λ s ws. ‵ (follows Data (Array R 0) self.ghost_name s.ghost_name (refill (length self.now) self.now)) ∷ raw
    (fact 𝓤 (s.now ≡ self.now)) ∷ [])
    (λ s ws. id⊢ 𝓤 _) (λ v s ws. peeks ! All _ (shows 𝓛 All) s (v ∷ []) (λ is. move ! (2 ∷ []) $ heard ! _ (λ same.
    lands_as ! refl refl ((mut_slice_Lawful 𝓛 (named 0) κs.0 R).typed s (v ∷ []) is).0 $
    -- Context: [the slice; how self follows it; the tokens; nothing; the place; the locals]
    calls ! (2 ∷ 3 ∷ 0 ∷ 5 ∷ []) run (entry_of.ended T) (entry_of.clauses T 𝓛 𝓜.mem 𝓡.returns)
    (entry_met.met 𝓤 𝓛 𝓜 𝓡 (code.calls-v_frame_buffer::aligned::entry_of 𝓡.env wired) T laws)
    ((κs, qs, bounds, (s, (k, tt)), (v ∷ [], (uint_vals w64 k, tt))), tt)
    (asks_both 𝓤 asked.0 (subst (λ n. k < n) (sym (ap length same)) asked.1)) refl
    (and_then ! (get ! refl) (and_then ! (get ! refl) (no_more !)))
    (λ r ws. ‵ (follows (Array R 0) R s.ghost_name r.ghost_name (slice_set s.now k)) ∷ raw
    (fact 𝓤 (slice_get s.now k ≡ Some r.now)) ∷ [])
    (λ r ws. id⊢ 𝓤 _) (λ v' r ws. peeks ! One _ (shows 𝓛 One) r (v' ∷ []) (λ is'. move ! (2 ∷ []) $ heard ! _ (λ value.
    lands_as ! refl refl ((mut_Lawful 𝓛 (named 0) κs.0 R).typed r (v' ∷ []) is').0 $ returns ! (look_at ! 0 refl) $
    free_all ! refl $
    -- Context: [the entry; how the slice follows it; the tokens; nothing, twice; how self follows the slice]
    let Ends : (T.Denot → List T.Denot) → _ = λ F. ‵ (follows Data R self.ghost_name r.ghost_name F) in
    move ! (6 ∷ 1 ∷ []) $ use2 𝓛 (Ends (λ x. refill (length self.now) self.now (slice_set s.now k x)))
    (follows_then 𝓛 Data (Array R 0) R (refill (length self.now) self.now) (slice_set s.now k) self.ghost_name
    s.ghost_name r.ghost_name) $
    rewrite ! 0 Ends (same_length s.now self.now k same) refl $ keep ! (0 ∷ 1 ∷ 2 ∷ 3 ∷ []) $ nothing ! $ nothing ! $
    ends ! (4 ∷ 5 ∷ 0 ∷ 1 ∷ 3 ∷ []) En stayed c ((κs, qs, bounds, a, words), g) v' r _ _ refl $
    says ! (ap (λ (xs : List T.Denot). slice_get xs k) (sym same) ∙ value) $ done !)))))))))
