-- `allocate` makes the parts of a block without entries. They need no memory if the entries take no bytes, and
-- otherwise use the memory that the allocator returned. Assumes `Logic`.
use Rattle.v_frame_buffer.proofs.Steps.{refl, sym, ℕ, ◌+◌, ◌*◌, ◌<◌, ◌^◌, arith, List, [], ◌∷◌, lit<, Ura, named, w64}
use Rattle.v_frame_buffer.proofs.Steps.{inst_fn, Val, vptr, vstruct, vcons, vnil, SProp, ent, sep, flft, Logic, sem}
use Rattle.v_frame_buffer.proofs.Steps.{tables, Item, ‵, raw, later, ◌⊛◌, at_ret, ◌$◌, ◌∵◌, !, qed, by, move, keep}
use Rattle.v_frame_buffer.proofs.Steps.{use0, use1, use2, split, fsplit, fjoin, feq_i, fpack, await, rewrite, live}
use Rattle.v_frame_buffer.proofs.Steps.{whole, drop, agg, stop, fld, from, addr, lit, bin, of_opd, and_then, no_more}
use Rattle.v_frame_buffer.proofs.Steps.{first, branches, skips, exec, returns, returns_within, enter, alloc_all}
use Rattle.v_frame_buffer.proofs.Steps.{pass_all, free_all, look_at, get, get_in, sets, lands_as, env, usize, yes}
use Rattle.v_frame_buffer.proofs.Steps.{RattleType, Valss, nothing, owned, within as packed, Tuple, tuple_type}
use Rattle.v_frame_buffer.proofs.Steps.{calls_at, Stays, stay_dropped, RefOf, plain, walk_of, Goes-dropped, after, true}
use Rattle.v_frame_buffer.proofs.Steps.{false, Bool, ty_array, Incl-trans, froom, zero-mul, zero-add, align, capped}
use Rattle.v_frame_buffer.proofs.Steps.{capped_fits, Sq, runs, flt_i, vrt, in_variant, align_word, get_tag, sets_last}
use Rattle.v_frame_buffer.proofs.Steps.{framed, forget_but, holding, Is, block_ptr, Struct, Struct-Makes, proved}
use Rattle.v_frame_buffer.proofs.Steps.{shr_vals, shr_Tells, uint_vals, uint_Tells, shape, ◌==◌, Fml, types_at, Ok, Err}
use Rattle.v_frame_buffer.proofs.Steps.{El, R, elτ, Al, token, Answer-typed, Takes, at_takes, Answered, Takes-goes}
use Rattle.v_frame_buffer.proofs.Steps.{Takes-gives, answers, block_ty, block_size, block_align, args, P, as_raw, word}
use Rattle.v_frame_buffer.proofs.Steps.{any_q, after_seq, at_return, Wp, cond, skip, switches_on, arm_body, head}
use mir.Syntax.{Body}
use lib.Ieee.Bits.{is_false}
use denote.Shadow.{makes_shadow, pure_i}
use Rattle.core.specs.contracts.result.Result as RS
use Rattle.core.specs.contracts.alloc.AllocError as AE
use Rattle.std_alloc.proofs.Flags.{T_back}
use Rattle.std_alloc.proofs.RcSteps.{is_not, is_so}
use Rattle.std_alloc.proofs.ResultValues.{ok_of, err_of}
use Rattle.v_frame_buffer.specs.Block.{room_at, token_if, deed_owns}
use Rattle.v_frame_buffer.proofs.CallSteps.{both_facts, opened_by, ends, tells, told}
use Rattle.v_frame_buffer.proofs.block.BlockRooms.{Bases, Kept, Deeds, Marks, wide, no_bytes, no_room, counted}
use Rattle.v_frame_buffer.proofs.block.BlockRooms.{one_more_fact}
use Rattle.v_frame_buffer.specs.contracts.aligned.block.allocate as F
use Rattle.v_frame_buffer.specs.contracts.aligned.block.allocate.Key.{name as #self}
use Rattle.v_frame_buffer.proofs.aligned.block.allocate.Statement.{statement}
use Rattle.v_frame_buffer.proofs.aligned.block.allocate.Code as code

module _ (E : El) (Z : Al) where
  abbrev Three : RattleType
  Three = Tuple (Bases E ∷ Kept E ∷ Deeds E Z ∷ [])

  abbrev Out : RattleType
  Out = RS.the_row Three AE.the_row

  -- The parts of a block of n entries at (b, o), and their machine value.
  abbrev made : ℕ → ℕ → ℕ → Z.row.Denot → Three.Denot
  made b o n a =
      let p = block_ptr b o in (
        record { ptr = p },
        record { mark = record {}; at = p; items = []; spare = n },
        record
            { mark = record {}; at = p; len = n; alloc = a },
      )

  abbrev parts_val : ℕ → ℕ → Val
  parts_val b o = vstruct (vcons (word (block_ptr b o)) (vcons no_bytes (vcons no_bytes vnil)))

  -- Uninitialized memory and the resources of its deed make up the parts.
  parts_made : {M : Type 1} {𝓤 : Ura M} (𝓛 : Logic 𝓤) (b o n : ℕ) (a : Z.row.Denot) → n * wide E < 2 ^ 63
      → ent 𝓤 (sep 𝓤 (sem 𝓛 (room_at (R E) b o n)) (sem 𝓛 (deed_owns (R E) (token Z a) (block_ptr b o) n)))
      (sem 𝓛 (Out.own_val (Ok (made b o n a)) (live 0 (vcons (parts_val b o) vnil) ∷ [])))
  parts_made {𝓤 = 𝓤} 𝓛 b o n a small =
      let p = block_ptr b o in let parts = made b o n a in let rows : List RattleType = Bases E ∷ Kept E ∷ Deeds E Z ∷
      [] in let s = wide E in
      let Mark : Fml = (Marks E).own_val (tt, tt) (no_bytes ∷ []) in
      let marked = makes_shadow 𝓛 Mark (λ vss. (tt, ((λ uss. (tt, tt)), tt)))
      ((vstruct vnil ∷ [], tt), (refl, ((tt, (refl, tt)), tt))) in
      qed 𝓛 (‵ (room_at (R E) b o n) ∷ ‵ (deed_owns (R E) (token Z a) p n) ∷ []) ∵
      rewrite ! 0 (λ (k : ℕ). ‵ (room_at (R E) b k n)) {x = 0 * s + o} (omega (arith, zero-mul s)) refl $ nothing ! $
      fjoin ! $
      flt_i ! ((0 + n) * s) (2 ^ 63) (rw zero-add small) $ fjoin ! $
      use0 𝓛 (‵ Mark) marked $ fjoin ! $ move ! (1 ∷ []) $ use0 𝓛 (‵ Mark) marked $ fjoin ! $
      pure_i ! ((Bases E).own_val parts.0 (word p ∷ [])) (λ vss. (tt, (tt, tt)))
      ((vptr b o ∷ [], tt), (refl, (refl, tt))) $
      -- Context: [the base; the deed; the cells]
      nothing ! $ move ! (2 ∷ 0 ∷ []) $ fjoin ! $ move ! (2 ∷ 0 ∷ []) $ fjoin ! $ move ! (1 ∷ 0 ∷ []) $ fjoin ! $
      feq_i ! (List Val) (parts_val b o ∷ []) (parts_val b o ∷ []) refl $ fjoin ! $
      fpack ! (Valss rows) (packed (shape (tuple_type rows)) (parts.0, (parts.1, (parts.2, tt))) (parts_val b o ∷ []))
      (word p ∷ [], (no_bytes ∷ [], (no_bytes ∷ [], tt))) $ by ! (ok_of 𝓛 Three AE.the_row parts (parts_val b o))

-- The code that is executed if a test is true.
abbrev held : Body → Body
held (cond c a b) = a
held b = skip

pub allocate_spec : {M : Type 1} → statement M
allocate_spec 𝓤 𝓛 𝓜 𝓡 wired X W X-laws W-laws g d dd met _ =
    let E : El = record { row = X; laws = X-laws } in let Z : Al = record
    { row = W; laws = W-laws; g = g; d = d; drops = dd } in
    let 𝓣 = tables 𝓤 𝓛.H 𝓜 𝓡 𝓡.env in let En = F.ended X W g d dd in let c = F.clauses X W g d dd 𝓛 𝓜.mem 𝓡.returns in
    let fn = inst_fn (args E Z) code.function in
    let stayed : Stays En.signature.params En.kept = (stay_dropped _ yes, (stay_dropped _ yes, tt)) in
    proved 𝓛 En stayed c 𝓜 𝓡 (
      Goes-dropped 𝓛 3 (RefOf (0 ∷ []) tt (plain (λ _. P E Z)) (λ _. tt)) yes (λ κs x w. refl),
      (Goes-dropped 𝓛 3 (plain (λ _. usize)) yes (λ κs x w. refl), tt),
    )
    (#self (args E Z)) fn (code.unfolded 𝓤 𝓛.H 𝓜 𝓡 wired (X, (W, tt)) d dd) _
    (λ κs. (shr_Tells (named 0) κs.0 (P E Z), (uint_Tells w64, tt))) (λ κs qs bounds a gh are.
    let κ = κs.0 in let q = qs.0 in let h = a.0.now in let at = a.0.ref_ptr in let len = a.1.0 in let s = wide E in
    let words : Valss (types_at En.signature.params κs) = (shr_vals a.0, (uint_vals w64 len, tt)) in
    let y : (walk_of 𝓛 En stayed c).Ghost = ((κs, qs, bounds, a, words), gh) in let Post : Val → SProp 𝓤 =
    (walk_of 𝓛 En stayed c).post y in
    opened_by 𝓛 En.signature κs qs a words _ _ (one_more_fact 𝓤 _ (both_facts 𝓤 _ _)) (λ asked.
    let small : len * s < 2 ^ 63 = asked.1.1.0 in let bytes : len * s < 2 ^ 64 = omega arith in
    keep ! (3 ∷ 0 ∷ 1 ∷ 2 ∷ []) $ fsplit ! $ drop ! $
    enter ! _ _ _ _ _ $ alloc_all ! (λ l. pass_all ! refl (_, ((tt, record { fits = are.1.0.1 }), tt)) $
    -- The code after the test whether the entries take any bytes; the `match` on the allocator's result; the ends of
    -- its arms.
    let Ev = env fn.locals l in let rest = after 5 fn.body in let answered = after 1 (held (head (after 4 fn.body))) in
    let Then = any_q (after_seq 𝓤 𝓛.H (Wp 𝓤 𝓛.H 𝓣.C 𝓣.Λ Ev rest (at_return 𝓤 𝓛.H Ev Post)) (at_return 𝓤 𝓛.H Ev Post)) in
    -- The resources of the deed. `none` is the result of the test whether the entries take no bytes.
    let Token : ℕ → ℕ → Bool → Item 𝓤 = λ b o none. ‵ (token_if (R E) none (token Z h) (block_ptr b o) len) in
    -- Once the memory is known, the parts are put together.
    let tail : (b o : ℕ) → Sq 𝓛 (‵ (room_at (R E) b o len) ∷ Token b o (len * s == 0) ∷ ‵ (flft κ q) ∷ ‵
    (flft κs.1.0 qs.1.0) ∷ ‵ (flft κs.1.1.0 qs.1.1.0)
    ∷ holding 𝓛 Ev ((5, vptr b o) ∷ [])) (runs 𝓣.C 𝓣.Λ Ev rest (at_ret Ev Post)) = λ b o.
    let v = live 0 (vcons (parts_val E Z b o) vnil) in
    sets ! (agg ! (and_then ! (get ! refl) (no_more !))) refl _ $
    sets ! (agg ! (no_more !)) refl _ $ sets ! (agg ! (and_then ! (get ! refl) (no_more !))) refl _ $
    sets ! (agg ! (no_more !)) refl _ $ sets ! (agg ! (and_then ! (get ! refl) (no_more !))) refl _ $
    sets ! (agg ! (and_then ! (get ! refl) (and_then ! (get ! refl) (and_then ! (get ! refl) (no_more !))))) refl _ $
    sets ! (agg ! (and_then ! (lit ! tt) (and_then ! (get ! refl) (no_more !)))) refl
    (tt, (record { fits = lit< tt }, _)) $
    use2 𝓛 (‵ ((Out E Z).own_val (Ok (made E Z b o len h)) (v ∷ []))) (parts_made E Z 𝓛 b o len h small) $
    returns ! (look_at ! 0 refl) $ free_all ! refl $ nothing ! $ nothing ! $
    ends ! (3 ∷ 4 ∷ 5 ∷ 0 ∷ 1 ∷ 2 ∷ []) En stayed c y v (Ok (made E Z b o len h)) (tt, (tt, tt)) (tt, (tt, tt)) refl $
    tells ! (refl, refl, refl) $ tells ! (refl, refl, refl) $ told ! (λ _. refl) in
    -- Context: [the handle; the tokens of κ, of the entries and of the allocator; the locals]
    sets ! (counted ! len bytes (get ! refl)) refl (tt, record { fits = bytes }) $
    sets ! (agg ! (no_more !)) refl _ $ sets ! (addr ! (from ! (stop !))) refl _ $
    sets ! (bin ! (get ! refl) (lit ! tt) tt) refl _ $ first ! $ branches ! (get ! refl)
    (λ some. let al = capped (align (elτ E)) in let τ = block_ty E len in let x = at_takes Z 𝓛 𝓜.mem 𝓡.returns κ q at h
    (len * s) al τ in
    use2 𝓛 (raw ((Takes Z 𝓛 𝓜.mem 𝓡.returns).pre x))
    (Takes-goes Z 𝓛 𝓜.mem 𝓡.returns κ q at h (Incl-trans bounds.0 asked.1.0) (len * s) al τ
    (block_size E len bytes) (block_align E len) bytes (capped_fits (align (elτ E)))) $
    calls_at ! (framed 𝓤 𝓛.H 𝓜 𝓣) (Takes Z 𝓛 𝓜.mem 𝓡.returns) (met.allocate dd) x
    (and_then ! (get ! refl) (and_then ! (get ! refl) (and_then ! (align_word !) (no_more !)))) (λ v.
    use1 𝓛 (later (raw (Answered Z 𝓛 𝓜.mem 𝓡.returns h τ v) ⊛ ‵ (flft κ q)))
    (Takes-gives Z 𝓛 𝓜.mem 𝓡.returns κ q at h (len * s) al τ v) $
    await ! tt $ split ! $ answers Z ! 𝓜.mem 𝓡.returns h τ v
    (λ b o given. lands_as ! given refl (Answer-typed true b o) $
    switches_on ! (get_tag ! (vrt ! refl (fld ! refl (stop !))) (whole !)) $ exec ! 𝓣.C 𝓣.Λ Ev (arm_body 0 answered)
    Then $
    sets ! (of_opd ! (get_in ! (vrt ! refl (fld ! refl (stop !))) (in_variant ! 0 0 refl refl (whole !)))) refl _ $
    sets_last ! (of_opd ! (get ! refl)) refl _ $ exec ! 𝓣.C 𝓣.Λ Ev rest (at_ret Ev Post) $
    rewrite ! 1 (Token b o) (sym (is_false _ some)) refl $ forget_but ! Ev (5 ∷ []) refl $ tail b o)
    (λ refused. lands_as ! refused refl (Answer-typed false 0 0) $
    let Refusal : RattleType = Struct (shape AE.the_type) in let v : Val = live 1 (vcons (vstruct vnil) vnil) in
    switches_on ! (get_tag ! (vrt ! refl (fld ! refl (stop !))) (whole !)) $ exec ! 𝓣.C 𝓣.Λ Ev (arm_body 1 answered)
    Then $
    sets ! (of_opd ! (get_in ! (vrt ! refl (fld ! refl (stop !))) (in_variant ! 1 0 refl refl (whole !)))) refl _ $
    sets ! (agg ! (and_then ! (lit ! tt) (and_then ! (get ! refl) (no_more !)))) refl
    (tt, (record { fits = lit< tt }, _)) $
    returns_within ! Post refl (look_at ! 0 refl) $ free_all ! refl $
    owned ! Refusal (Is Refusal) (Struct-Makes 𝓛 (shape AE.the_type) tt) tt (vstruct vnil ∷ []) (tt, (refl, tt)) $
    use1 𝓛 (‵ ((Out E Z).own_val (Err (record {})) (v ∷ [])))
    (err_of 𝓛 (Three E Z) AE.the_row (record {}) (vstruct vnil)) $
    nothing ! $ nothing ! $ ends ! (3 ∷ 4 ∷ 5 ∷ 0 ∷ 1 ∷ 2 ∷ []) En stayed c y v (Err (record {})) (tt, (tt, tt))
    (tt, (tt, tt)) refl $
    tells ! tt $ tells ! tt $ told ! (λ none. absurd (is_not (len * s) 0 some none)))))
    (λ none. skips ! $ exec ! 𝓣.C 𝓣.Λ Ev rest (at_ret Ev Post) $ drop ! $ forget_but ! Ev (5 ∷ []) refl $
    nothing ! $ rewrite ! 0 (Token (l 4) 0) (sym (T_back _ none)) refl $
    use0 𝓛 (‵ (froom (ty_array (elτ E) len) (l 4) 0)) (no_room E 𝓛 len (l 4) 0 (is_so (len * s) 0 none)) $ as_raw !
    (ty_array (elτ E) len) (l 4) 0 $
    tail (l 4) 0))))
