-- A whole iteration of calls that write. The plane is lent to an iterator. In a loop, each draw takes an item from it
-- and writes into the item. Then the iterator is dropped. Generated proofs know nothing about kept items, so this
-- hand-written proof follows the code. It covers rows and pixels: see `ItemKinds.antt`. Assumes `Logic`.
use Rattle.v_frame.proofs.Steps.{arm_body, copied, option_copied_mut, option_laws, option_row, SliceRefOf, after_turn}
use Rattle.v_frame.proofs.Steps.{fhide, lt-wf_rel, mul-le-mul_right, shr_slice_vals, spot_of, tables_of, w64}
use Rattle.v_frame_buffer.proofs.Steps.{Goes-dropped, Item, List, MutBor, Option, SProp, ShrRef, Sq, Stays, Val, Wp}
use Rattle.v_frame_buffer.proofs.Steps.{addr, after, after_seq, agg, alloc_all, and_then, any_q, ap, at_ret, at_return}
use Rattle.v_frame_buffer.proofs.Steps.{enter, env, exec, fact, feq_i, feq_l, first, fld, flft, forget_but, framed}
use Rattle.v_frame_buffer.proofs.Steps.{free_all, from, fsplit, ftrue, get, get_in, get_tag, heard, holding, hop, id⊢}
use Rattle.v_frame_buffer.proofs.Steps.{in_variant, is, lands_as, lands_last, lit<, look_at, look_in_at, move, mut_vals}
use Rattle.v_frame_buffer.proofs.Steps.{named, no_more, nothing, of_opd, param, pass_all, peeks, plain, proved, raw}
use Rattle.v_frame_buffer.proofs.Steps.{refl, returns, rewrite, runs, sets, shows, skips, stay_dropped, stop, sub}
use Rattle.v_frame_buffer.proofs.Steps.{switches_on, sym, tables, through, unit_lit, use1, use2, use3, vptr, vrt, vunit}
use Rattle.v_frame_buffer.proofs.Steps.{walk_of, whole, yes, ℕ, !, [], ‵, ◌$◌, ◌∙◌, ◌∷◌, ◌≡◌, ◌⊑◌, Fml, NamedLft, Lft}
use Rattle.v_frame_buffer.proofs.Steps.{live, of_list, Step, step, ◌++◌, Logic, Ura, RattleType, Laws, Ty}
use Rattle.v_frame_buffer.proofs.Steps.{tcons, tnil, ty_ref, ty_param, erased, mut, slice_ty, MachineTables, Running}
use Rattle.v_frame_buffer.proofs.Steps.{Callee, Dict, Fn, Sym, addr_of, aggregate, arm, copy, deref, field, imm, local}
use Rattle.v_frame_buffer.proofs.Steps.{no_default, opd_unit, place, return, rv_opd, seq, skip, switch, ttcons, ttnil}
use Rattle.v_frame_buffer.proofs.Steps.{ty_enum, ty_unit, variant, WT, Model, Closed, Go, settles, Below, Goes-ref, Out}
use Rattle.v_frame_buffer.proofs.Steps.{after_block, again, arith, bin, blocks, branches, drop, elements_shared}
use Rattle.v_frame_buffer.proofs.Steps.{give_at, jumps, length, lit, loops, ltb→lt, map, meet_⊑_right, mem, nltb→le}
use Rattle.v_frame_buffer.proofs.Steps.{only, sets_last, slice_val, split, stay_ref, take, take_at, use0}
use Rattle.v_frame_buffer.proofs.Steps.{vint, ⊑_trans, ◌*◌, ◌+◌, ◌-◌, ◌<◌, ◌^◌, ◌≤◌, ◌⊛◌, ty_int, ty_ptr, cond}
use Rattle.v_frame_buffer.proofs.Steps.{int, lt, op2, ty_bool, unsigned, Bor}
use mir.Syntax.{Body, Opd as Operand, add, block, exit, loop, memory_slot, mul, offset}
use types.Kit.{Post as Exits}
use Rattle.v_frame.proofs.CallSteps.{asks_that, calls, calls_last, ends, opened, read_twice, unit_fits, tells, told}
use Rattle.v_frame.proofs.Drawing.{Draws, by_side, from_back, from_front}
use Rattle.v_frame.proofs.ItemKinds.{Ends, Entry, Kept, Kind, Lends, Promise, Puts, Walk, draw_row, left, made, neither}
use Rattle.v_frame.proofs.ItemKinds.{of_pixels, walk_row, Draw, EndsBy, FinalItems, Law, LendsBack, shown, side_of, written}
use Rattle.std.specs.{declared.clone.Clone.Ghosts}
use Rattle.v_frame_buffer.proofs.{Loans.Back as Way_back, Loans.share_within}
use Rattle.v_frame.specs.Walk.{remaining_after, remaining_in_turn, walk_leaves}
use Rattle.v_frame.specs.declared.replay.draw.Side.{TheVariants.Front, TheVariants.Back}
use Rattle.v_frame.proofs.{OptionCases.by_told, DrawnLoans.item_taken, DrawnLoans.none_taken, BegunWalks.table_ends}
use Rattle.v_frame.proofs.{DrawnItems.nth_left, SharedItems.lends_nth, SharedItems.nth_of}
use Rattle.v_frame_raster.specs.Raster.{table_of}
use Rattle.v_frame_plane.specs.LendsTable.{EndsWith}
use Rattle.v_frame.proofs.DrawnLoans.{each_drawn, none_drawn, nth_drawn}
use Rattle.v_frame.proofs.Lending.{Kept_by, begins_walk, lowers, opens, lends_walk, table_back, walk_back}
use Rattle.v_frame.proofs.WriteItem.{Left, asks, changes, draws as draws_promise, draws_laws, given, given_laws}
use Rattle.v_frame.proofs.WriteItem.{its_value, left_as, value_is}
use Rattle.v_frame_buffer.proofs.Statements.{gets, in_order, locals_of, set, value}
use base.Share
use mathlib.Core.WellFounded.InvImage
use Rattle.v_frame_plane.specs.contracts.plane.Plane as planes
use Rattle.v_frame.specs.contracts.replay.pixel_writes.write_pixels
use Rattle.v_frame.specs.contracts.replay.row_writes.write_rows
use Rattle.v_frame.proofs.WriteItem.{law}
use Rattle.v_frame.proofs.OwnedItems.{by_law, bare, size_opd, sized}

module _ {M : Type 1} {𝓤 : Ura M} (𝓛 : Logic 𝓤) (𝓜 : Model 𝓤 𝓛.H) (𝓡 : Running 𝓤 𝓛.H 𝓜) (T : RattleType)
    (laws : Laws T) (clone : Ghosts T.Denot) (dict :
    Dict) where
  abbrev writes_items : Kind → Promise 𝓤
  writes_items of_pixels = (write_pixels.ended T clone dict, write_pixels.clauses T clone dict 𝓛 𝓜.mem 𝓡.returns)
  writes_items _ = (write_rows.ended T clone dict, write_rows.clauses T clone dict 𝓛 𝓜.mem 𝓡.returns)

  -- The code, given the names and types in it and the called functions.
  module _ (option side : Sym) (kept drawing lent whole_plane read entry : Ty)
      (opening asking ahead behind changing dropping : Callee) where
    abbrev handed : Kind → Ty
    handed of_pixels = ty_ref erased mut (ty_param 0)
    handed _ = slice_ty (ty_ref erased mut (ty_param 0))

    abbrev further : Kind → List Ty
    further of_pixels = ty_unit ∷ []
    further k = handed k ∷ ty_unit ∷ []

    abbrev unit_of : Kind → ℕ
    unit_of of_pixels = 20
    unit_of _ = 21

    abbrev changes_by : ℕ → Body
    changes_by i = gets 18 changing (value i ∷ value 5 ∷ [])

    -- A row is a pointer and a length, which are put together again.
    abbrev lends_on : Kind → Body
    lends_on of_pixels = seq (set 19 (addr_of (place 7 (deref entry ∷ [])))) (changes_by 19)
    lends_on _ = in_order (set 19 (addr_of (place 7 (field 0 ∷ deref entry ∷ []))) ∷ set 20
        (aggregate (value 19 ∷ copy (place 7 (field 1 ∷ [])) ∷ [])) ∷ [])
        (changes_by 20)

    abbrev tag : ℕ → Operand
    tag i = copy (place i (variant 0 ∷ field 0 ∷ []))

    abbrev draws_by : ℕ → Callee → Body
    draws_by i drawn = in_order (set i (addr_of (place 3 [])) ∷ []) (gets 15 drawn (value i ∷ []))

    -- An item is taken, and changed if there is one.
    abbrev written_by : Kind → Body
    written_by k = switch (tag 6) (arm (1 ∷ []) (in_order
        (set 7 (rv_opd (copy (place 6 (variant 1 ∷ field 1 ∷ [])))) ∷ []) (lends_on k))
        (arm (0 ∷ []) skip no_default))

    abbrev drawn_by : Kind → Body
    drawn_by k = seq (set 6 (rv_opd (value 15))) (written_by k)

    abbrev draws_one : Kind → Body
    draws_one k = in_order (gets 14 asking (value 5 ∷ []) ∷
        switch (tag 14) (arm (0 ∷ []) (draws_by 16 ahead) (arm (1 ∷ []) (draws_by 17 behind) no_default)) ∷ [])
        (drawn_by k)

    abbrev goes_on : Body
    goes_on = set 4 (op2 (add unsigned) (value 4) (int w64 1))

    abbrev turn : Kind → Body
    turn k = in_order (set 11 (op2 (lt unsigned) (value 4) (value 10)) ∷ cond (value 11) skip (exit 1) ∷ set 12
        (op2 (mul unsigned) (value 4) (size_opd T k)) ∷
        set 13 (op2 offset (copy (place 2 (field 0 ∷ []))) (value 12)) ∷ set 5 (addr_of (place 13 (deref read ∷ []))) ∷
        block (draws_one k) ∷ []) goes_on

    abbrev ends_so : Kind → Body
    ends_so k = in_order (gets (unit_of k) dropping [] ∷ set 0 (rv_opd opd_unit) ∷ []) return

    abbrev code : Kind → Fn
    code k = let number = ty_int w64 in let gives = ty_enum option (ttcons tnil (ttcons (tcons (handed k) tnil) ttnil))
        in
        let types = locals_of in record {
          lifetimes = 2;
          outlives = (2, 0) ∷ (2, 1) ∷ [];
          ty_params = [];
          givens = 0;
          params = 2;
          body = in_order (set 9 (addr_of (place 1 (deref whole_plane ∷ []))) ∷ gets 8 opening (value 9 ∷ []) ∷ set 3
              (rv_opd (value 8)) ∷
              block (in_order (set 4 (rv_opd (int w64 0)) ∷ set 10 (rv_opd (copy (place 2 (field 1 ∷ [])))) ∷ [])
              (block (loop (turn k)))) ∷ []) (ends_so k);
          locals = types (ty_unit ∷ ty_ref (named 0) mut kept ∷ slice_ty (ty_ref (named 1) imm drawing) ∷ []) ++ local
              (bare T k) memory_slot ∷
              types (number ∷ ty_ref erased imm drawing ∷ gives ∷ handed k ∷ bare T k ∷ ty_ref erased mut kept ∷ number
              ∷ ty_bool ∷ number ∷ ty_ptr ∷
              ty_enum side (ttcons tnil (ttcons tnil ttnil)) ∷ gives ∷ ty_ref erased mut lent ∷ ty_ref erased mut lent
              ∷ ty_unit ∷
              ty_ref erased mut (ty_param 0) ∷ further k);
        }

    abbrev 𝓣 : MachineTables 𝓤 𝓛.H 𝓜
    𝓣 = tables 𝓤 𝓛.H 𝓜 𝓡 𝓡.env

    -- The local through which the item is passed on, and the changes of the locals.
    abbrev relent : (κ : Lft) (k : Kind) (x : (given T κ k).Denot) → ℕ × List (ℕ × Val)
    relent κ of_pixels x = (19, (19, its_value T κ of_pixels x) ∷ [])
    relent κ k x = (20, (19, vptr x.ref_ptr.0 x.ref_ptr.1) ∷ (20, its_value T κ k x) ∷ [])

    lends_item : (κ : Lft) (k : Kind) (x : (given T κ k).Denot) → WT (its_value T κ k x) → (l : ℕ → ℕ)
        (plane draws walk i draw n v : Val) {a b c d e f g h j m
        o p r : Item 𝓤} {q : Exits 𝓤 𝓛.H}
        → let En = env (code k).locals l in let u = its_value T κ k x in let Γ = λ (held : List (ℕ × Val)). a ∷ b ∷ c ∷
        d ∷ e ∷ f ∷ g ∷ h ∷ j ∷ m ∷ o ∷ p ∷ r ∷
        holding 𝓛 En (held ++ (1, plane) ∷ (2, draws) ∷ (3, walk) ∷ (4, i) ∷ (5, draw) ∷ (6, live 1 (of_list (u ∷ [])))
        ∷ (7, u) ∷ (10, n) ∷ (15, v) ∷ []) in
        Step (Go {0}) 𝓛 (Γ (relent κ k x).1) (runs 𝓣.C 𝓣.Λ En (changes_by (relent κ k x).0) q) (Γ [])
        (runs 𝓣.C 𝓣.Λ En (lends_on k) q)
    lends_item κ of_pixels x ok l plane draws walk i draw n v = sets ! (addr ! (through ! refl (stop !))) refl (tt, tt)
    lends_item κ _ x ok l plane draws walk i draw n v = step (λ s.
        sets ! (addr ! (from ! (fld ! refl (hop ! (look_in_at ! 7 (sub ! 0 refl (whole !))) (stop !))))) refl (tt, tt) $
        sets ! (agg ! (and_then ! (get ! refl) (and_then ! (get_in ! (fld ! refl (stop !)) (sub ! 1 refl (whole !)))
        (no_more !)))) refl (tt, ok) $ s)

    abbrev Written : Kind → Type 2
    Written neither = Unit {2}
    Written k = (key : Callee) → Kept 𝓛 𝓜 𝓡 (opens 𝓛 𝓜 𝓡 T laws k) opening → Kept 𝓛 𝓜 𝓡 (asks 𝓛 𝓜 𝓡 T k) asking →
        Kept 𝓛 𝓜 𝓡 (draws_promise 𝓛 𝓜 𝓡 T k Front) ahead → Kept 𝓛 𝓜 𝓡 (draws_promise 𝓛 𝓜 𝓡 T k Back) behind →
        Kept 𝓛 𝓜 𝓡 (changes 𝓛 𝓜 𝓡 T clone dict k) changing → Kept 𝓛 𝓜 𝓡 (law 𝓛 𝓜 𝓡 T k) dropping → Closed 𝓤 𝓛.H 𝓣.C 𝓣.Λ key (code k) → Kept 𝓛 𝓜 𝓡
        (writes_items k) key

    pub items_written : (k : Kind) → Written k
    unfolding after_turn tables_of
    items_written neither = tt
    items_written k = λ key opened_by asked first_drawn last_drawn changed law_holds closed.
        let item = param 0 T in let function = code k in
        let En₀ = (writes_items k).0 in let c = (writes_items k).1 in
        let Self = plain (λ _. planes.the_row (copied 0 T)) in let Lent = SliceRefOf (1 ∷ []) tt
        (plain (λ _. draw_row k (copied 0 T))) (λ κs. tt) in
        let stayed : Stays En₀.signature.params En₀.kept = (stay_ref (0 ∷ []) tt Self, (stay_dropped Lent yes, tt)) in
        proved 𝓛 En₀ stayed c 𝓜 𝓡 (Goes-ref 𝓛 3 0 tt Self, (Goes-dropped 𝓛 3 Lent yes (λ κs x w. refl), tt)) key
        function closed
        (λ κs. (mut_vals, (shr_slice_vals, tt))) (λ κs. ((λ x vs is. is.0), ((λ x vs is. is.0.0), tt)))
        (λ κs qs bounds a g are.
        let κ = κs.0 in let q = qs.0 in let κd = κs.1.0 in let qd = qs.1.0 in let κT = κs.1.1.0 in let qT = qs.1.1.0 in
        let run = framed 𝓤 𝓛.H 𝓜 𝓣 in let W = walk_of 𝓛 En₀ stayed c in
        let Read = draw_row k item in let plane = a.0 in let draws : List (Draw T k) = a.1.0.now in let n = length
        draws in
        let b = plane.ref_ptr.0 in let o = plane.ref_ptr.1 in let bd = a.1.0.ref_ptr.0 in let od = a.1.0.ref_ptr.1 in
        let y : W.Ghost = ((κs, qs, bounds, a, (mut_vals plane, (shr_slice_vals a.1.0, tt))), tt) in let Post : Val →
        SProp 𝓤 = W.post y in
        let n_fits : n < 2 ^ 64 = are.1.0.0.1.0 in let size = (mem Read).size in let room : n * size < 2 ^ 63 =
        are.1.0.0.1.1 in
        let Each : Fml = fhide (elements_shared Read draws bd od κd) in
        opened 𝓛 En₀.signature κs qs a (mut_vals plane, (shr_slice_vals a.1.0, tt)) (κT ⊑ T.lives) (λ inT.
        -- Context: [the tokens of κ, κd and κT; the plane; the draws]
        move ! (4 ∷ []) $ fsplit ! $ drop ! $ enter ! _ _ _ _ _ $ alloc_all ! (λ l.
        pass_all ! refl ((tt, tt), ((tt, (tt, (record { fits = n_fits }, tt))), tt)) $ let En = env function.locals l in
        sets ! (addr ! (through ! refl (stop !))) refl (tt, tt) $ move ! (4 ∷ 1 ∷ 3 ∷ []) $
        begins_walk 𝓛 𝓜 𝓡 T laws k _ _ _ _ _ _ _ _ ! opened_by (named 0) κ κT q qT plane inT (λ i j m.
        and_then ! (get ! refl) (no_more !)) (λ α δ w begun typed. let κw = α ∷ κT in let qw = share_within
        (Share.left qT) in
        let rT = Share.right qT in let inT' = meet_⊑_right (α ∷ []) κT in let loan = record plane { ghost_name = δ } in
        let ℓ : NamedLft = record { mir = named 0; lft = κw } in let Walking = walk_row k ℓ item in let low =
        (lowers 𝓛 𝓜 𝓡 T laws k ℓ).lowered in
        let spelled = (lowers 𝓛 𝓜 𝓡 T laws k ℓ).val_is in
        lands_as ! refl refl typed.0 $ sets ! (of_opd ! (get ! refl)) refl typed.0 $
        -- Context: [the iterator; how the plane ends; the tokens of κw and κT; the plane's lender; the way back; the
        -- draws; the token of κd; the locals]
        let Shows : Item 𝓤 = ‵ (LendsBack T k loan w) in let Lender : Item 𝓤 = Kept_by 𝓛 T α δ κ κT q
        plane in
        let turning = turn k in let behind_loop = ends_so k in
        -- Some of the draws are done, and these items remain.
        let State : Type 0 = (s : ℕ × Walk T k) × (s.0 ≤ n) ×
        (left T k s.1 ≡ remaining_in_turn (left T k w) (map (side_of T k) (take s.0 draws))) in
        let Nearer : State → State → Type 0 = λ t u. n - t.0.0 < n - u.0.0 in
        let Now : State → List (Item 𝓤) = λ t. ‵ (Walking.own_val t.0.1 (low t.0.1 ∷ [])) ∷ ‵
        (Puts T k (take t.0.0 draws) w t.0.1) ∷ ‵ (flft κw qw) ∷
        ‵ (flft κT rT) ∷ ‵ (flft κd qd) ∷ ‵ Each ∷ Shows ∷ Lender ∷ raw (Way_back 𝓛 α κT (Share.left qT))
        ∷ holding 𝓛 En ((1, vptr b o) ∷ (2, slice_val (bd, od) n) ∷ (3, low t.0.1) ∷ (4, vint w64 t.0.0) ∷
        (10, vint w64 n) ∷ []) in
        let Turned : State → Out → SProp 𝓤 = λ t. after_turn 𝓤 𝓛.H (Below 𝓛 Nearer Now t)
        (after_block 𝓤 𝓛.H (after_block 𝓤 𝓛.H (after_seq 𝓤 𝓛.H
        (Wp 𝓤 𝓛.H 𝓣.C 𝓣.Λ En behind_loop (at_return 𝓤 𝓛.H En Post))
        (at_return 𝓤 𝓛.H En Post)))) in
        let turns : (t : State) → Sq 𝓛 (Now t) (runs 𝓣.C 𝓣.Λ En turning (any_q (Turned t))) = λ t. let i = t.0.0 in let
        walk = t.0.1 in
        sets ! (bin ! (get ! refl) (get ! refl) tt) refl (tt, tt) $ first ! $ branches ! (get ! refl)
        (λ less. let h : i < n = ltb→lt i n less in let d = nth_of draws i h in let p = i * size + od in
        let tiny : size < 2 ^ 64 = omega (arith, room, mul-le-mul_right {m = 1} {n = n} size (omega (arith, h))) in
        let fits : i * size < 2 ^ 64 = omega (arith, room, mul-le-mul_right {m = i} {n = n} size (omega (arith, h))) in
        let more : i + 1 < 2 ^ 64 = omega (arith, n_fits, h) in let τ = (spot_of 𝓤 𝓛.H En 3).0 in
        skips ! $ exec ! 𝓣.C 𝓣.Λ En (after 2 turning) (any_q (Turned t)) $
        sets ! (bin ! (get ! refl) (sized T k (record { fits = tiny })) (record { fits = fits })) refl
        (tt, record { fits = fits }) $
        sets ! (bin ! (get_in ! (fld ! refl (stop !)) (sub ! 0 refl (whole !))) (get ! refl) tt) refl (tt, tt) $
        sets ! (addr ! (through ! refl (stop !))) refl (tt, tt) $ first ! $ blocks ! $
        let ι : Bor (Draw T k) = record { ref_ptr = (bd, p); now = d } in
        let inw' = bounds.1.0 in let Given = given T κw k in let Gives = option_row Given in
        let typing = (option_laws Given (given_laws T κw k laws)).lawful 𝓛 in
        let draws_of = draws_promise 𝓛 𝓜 𝓡 T k in let Taken = Puts T k (d ∷ []) walk in
        let After : Out → SProp 𝓤 = after_block 𝓤 𝓛.H
        (after_seq 𝓤 𝓛.H (Wp 𝓤 𝓛.H 𝓣.C 𝓣.Λ En goes_on (Turned t)) (Turned t)) in
        let Then : Exits 𝓤 𝓛.H = any_q (after_seq 𝓤 𝓛.H (Wp 𝓤 𝓛.H 𝓣.C 𝓣.Λ En (drawn_by k) After) After) in
        -- Context: [the items to put back; the iterator; the tokens of κw, κT and κd; the draws; the items put back;
        -- the rest; the locals]
        let finish : (new : Walk T k) → left T k new ≡ remaining_after d.side (left T k walk) → Sq 𝓛
        (‵ (Taken new) ∷ ‵ (Walking.own_val new (low new ∷ [])) ∷
        ‵ (flft κw qw) ∷ ‵ (flft κT rT) ∷ ‵ (flft κd qd) ∷ ‵ Each ∷ ‵ (Puts T k (take i draws) w walk) ∷ Shows ∷ Lender
        ∷
        raw (Way_back 𝓛 α κT (Share.left qT)) ∷ holding 𝓛 En
        ((1, vptr b o) ∷ (2, slice_val (bd, od) n) ∷ (3, low new) ∷ (4, vint w64 i) ∷
        (10, vint w64 n) ∷ []))
        (runs 𝓣.C 𝓣.Λ En goes_on (any_q (Turned t))) = λ new fewer.
        sets_last ! (bin ! (get ! refl) (lit ! tt) (record { fits = more })) refl (tt, record { fits = more }) $
        move ! (6 ∷ 0 ∷ []) $ use2 𝓛 (‵ (Puts T k (take (i + 1) draws) w new))
        (nth_drawn 𝓛 T k draws i h w walk new t.2 fewer) $ move ! (1 ∷ 0 ∷ []) $
        again ! Nearer Now t ((i + 1, new), omega (arith, h), nth_left (side_of T k) _ draws i h _ _ t.2 fewer)
        (omega (arith, h)) in
        -- The code that changes the item after it is taken. Context: [the iterator; the token of κw; the item; the
        -- loan; the clauses; the tokens of κT and κd; nothing; the draw; the draws; the items put back; the rest; the
        -- locals].
        let writes : (v : Val) (r : Option (MutBor (Entry T k))) (new : Walk T k) → Sq 𝓛
        (‵ (Walking.own_val new (low new ∷ [])) ∷ ‵ (flft κw qw) ∷
        ‵ (Gives.own_val r (v ∷ [])) ∷ (Draws 𝓛 T k walk r new d.side ++ ‵ (flft κT rT) ∷ ‵ (flft κd qd) ∷ ‵ ftrue ∷
        ‵ ((ShrRef (named 2) κd Read).own_val ι (vptr bd p ∷ [])) ∷ ‵ Each ∷ ‵ (Puts T k (take i draws) w walk) ∷ Shows
        ∷ Lender ∷
        raw (Way_back 𝓛 α κT (Share.left qT)) ∷ holding 𝓛 En
        ((1, vptr b o) ∷ (2, slice_val (bd, od) n) ∷ (3, low new) ∷ (4, vint w64 i) ∷ (5, vptr bd p) ∷
        (10, vint w64 n) ∷ []))) (settles En (place 15 []) v Then) = λ v r new.
        move ! (2 ∷ []) $ peeks ! Gives _ (shows 𝓛 Gives) r (v ∷ []) (λ fits. move ! (4 ∷ []) $ heard ! _ (λ gave.
        lands_last ! refl (typing.typed r (v ∷ []) fits).0 $ exec ! 𝓣.C 𝓣.Λ En (drawn_by k) (any_q After) $
        by_told ! Given (its_value T κw k) (value_is T κw k) r v (λ is_none e.
        sets ! (is ! (of_opd ! (get ! refl)) e) refl (tt, (record { fits = lit< tt }, tt)) $
        switches_on ! (get_tag ! (vrt ! refl (fld ! refl (stop !))) (whole !)) $ exec ! 𝓣.C 𝓣.Λ En
        (arm_body 1 (written_by k)) (any_q After) $
        skips ! $ exec ! 𝓣.C 𝓣.Λ En goes_on (any_q (Turned t)) $
        -- Context: [the iterator; the token of κw; the loan; the tokens of κT and κd; nothing; the draw; the draws;
        -- the items put back; the rest]
        move ! (5 ∷ 6 ∷ 2 ∷ []) $ drop ! $ drop ! $
        rewrite ! 0 (λ (z : Option (MutBor (Entry T k))). ‵ (Lends T k d.side walk z new)) is_none refl $
        use1 𝓛 (‵ (Taken new)) (none_taken 𝓛 T d.side k (made T k d) walk new
        (sym (ap option_copied_mut (sym is_none) ∙ gave.0))) $
        forget_but ! En (1 ∷ 2 ∷ 3 ∷ 4 ∷ 10 ∷ []) refl $ finish new gave.1) (λ x is_item e is_one.
        let item_fits = (((given_laws T κw k laws).lawful 𝓛).typed x (its_value T κw k x ∷ []) is_one).0.1 in
        sets ! (is ! (of_opd ! (get ! refl)) e) refl (tt, (record { fits = lit< tt }, (item_fits, tt))) $
        switches_on ! (get_tag ! (vrt ! refl (fld ! refl (stop !))) (whole !)) $ exec ! 𝓣.C 𝓣.Λ En
        (arm_body 0 (written_by k)) (any_q After) $
        sets ! (of_opd ! (get_in ! (vrt ! refl (fld ! refl (stop !))) (in_variant ! 1 0 refl refl (whole !)))) refl
        (tt, item_fits) $
        lends_item κw k x item_fits l (vptr b o) (slice_val (bd, od) n) (low new) (vint w64 i) (vptr bd p) (vint w64 n)
        v $
        -- Context: [the item; the iterator; the token of κw; the loan; the tokens of κT and κd; nothing; the draw;
        -- the draws; the items put back; the rest]
        calls_last ! (2 ∷ 5 ∷ 4 ∷ 0 ∷ 7 ∷ []) run (changes 𝓛 𝓜 𝓡 T clone dict k).0 (changes 𝓛 𝓜 𝓡 T clone dict k).1
        changed (
          (
            (κw, (κd, (κT, tt))),
            (qw, (qd, (rT, tt))),
            (inT', (inw', tt)),
            (x, (ι, tt)),
            (its_value T κw k x ∷ [], (vptr bd p ∷ [], tt)),
          ),
          tt,
        )
        (asks_that 𝓤 inT) refl
        (and_then ! (get ! refl) (and_then ! (get ! refl) (no_more !)))
        (λ u last. raw (fact 𝓤 (last.0 ≡ made T k d x.now)) ∷ []) (λ u last. id⊢ 𝓤 _)
        (λ z u last. feq_l ! (λ is_unit. heard ! _ (λ changed_so.
        lands_last ! refl (unit_fits is_unit) $ exec ! 𝓣.C 𝓣.Λ En goes_on (any_q (Turned t)) $
        -- Context: [the tokens of κw, κd and κT; how the item ends; nothing; the iterator; the loan; nothing; the
        -- draws; the items put back; the rest]
        move ! (4 ∷ 7 ∷ 3 ∷ []) $ drop ! $ drop ! $ use1 𝓛 (‵ (Left T κw k x last.0)) (left_as T κw 𝓛 k x last.0) $
        rewrite ! 0 (λ (z : Entry T k). ‵ (Ends T k x z)) changed_so refl $
        rewrite ! 5 (λ (z : Option (MutBor (Entry T k))). ‵ (Lends T k d.side walk z new)) is_item refl $ move !
        (0 ∷ 5 ∷ []) $
        use2 𝓛 (‵ (Taken new)) (item_taken 𝓛 T d.side k (made T k d) walk new x
        (sym (ap option_copied_mut (sym is_item) ∙ gave.0))) $
        move ! (0 ∷ 4 ∷ 1 ∷ 3 ∷ 2 ∷ []) $ forget_but ! En (1 ∷ 2 ∷ 3 ∷ 4 ∷ 10 ∷ []) refl $ finish new gave.1)))))) in
        -- Context: [the iterator; the items put back; the tokens of κw, κT and κd; the draws; the rest; the locals]
        move ! (5 ∷ []) $ lends_nth ! Read (draws_laws T k laws) (named 2) κd draws bd od i h $ read_twice ! (named 2)
        κd Read (draws_laws T k laws) ι $
        -- Context: [the draw, twice; the draws; the iterator; the items put back; the tokens of κw, κT and κd; the
        -- rest]
        calls ! (7 ∷ 6 ∷ 0 ∷ []) run (asks 𝓛 𝓜 𝓡 T k).0 (asks 𝓛 𝓜 𝓡 T k).1 asked
        (((κd, (κT, tt)), (qd, (rT, tt)), (inw', tt), (ι, tt), (vptr bd p ∷ [], tt)), tt) (asks_that 𝓤 inT) refl
        (and_then ! (get ! refl) (no_more !)) (λ s us. raw (fact 𝓤 (s ≡ d.side)) ∷ []) (λ s us. id⊢ 𝓤 _)
        (λ u s us. move ! (1 ∷ []) $ heard ! _ (λ is_side.
        -- Context: [the side; the tokens of κd and κT; nothing; the draw; the draws; the iterator; the items put
        -- back; the token of κw; the rest]
        by_side ! s u (λ is_front e. lands_as ! e refl (tt, (record { fits = lit< tt }, tt)) $ first ! $
        switches_on ! (get_tag ! (vrt ! refl (fld ! refl (stop !))) (whole !)) $ exec ! 𝓣.C 𝓣.Λ En (draws_by 16 ahead)
        Then $
        sets ! (addr ! (from ! (stop !))) refl (tt, tt) $ take_at ! 3 $ move ! (0 ∷ 6 ∷ 8 ∷ []) $
        lends_walk ! tt Walking refl τ refl κw qw walk (l 3) 0 (low walk)
        (λ β γ. let κc = β ∷ κw in let inw = meet_⊑_right (β ∷ []) κw in
        -- Context: [the lent iterator; the tokens of κc and κw; its lender; the way back; the tokens of κd and κT;
        -- nothing; the draw; the draws; the items put back; ..]
        calls_last ! (1 ∷ 2 ∷ 6 ∷ 0 ∷ []) run (draws_of Front).0 (draws_of Front).1 first_drawn (
          (
            (κc, (κw, (κT, tt))),
            (share_within (Share.left qw), (Share.right qw, (rT, tt))),
            (inw, (⊑_trans κc κw κT inw inT', (inT', tt))),
            (record { ref_ptr = (l 3, 0); ghost_name = γ; now = walk }, tt),
            (vptr (l 3) 0 ∷ [], tt),
          ),
          tt,
        ) (asks_that 𝓤 inT) refl
        (and_then ! (get ! refl) (no_more !)) (λ r us. Draws 𝓛 T k walk r us.0 d.side)
        (λ r us. from_front 𝓛 T k walk r us.0 d.side (sym is_side ∙ is_front)) (λ v r us.
        move ! (3 ∷ 4 ∷ 6 ∷ 7 ∷ 8 ∷ []) $ walk_back ! tt Walking refl τ refl κw qw β γ (l 3) 0 us.0 (low us.0)
        (λ z is. ap only (spelled us.0 (z ∷ []) is)) $ give_at ! 3 $
        -- Context: [the iterator; the token of κw; the item; the loan; the clauses; the tokens of κT and κd; nothing;
        -- the draw; the draws; ..]
        forget_but ! En (1 ∷ 2 ∷ 3 ∷ 4 ∷ 5 ∷ 10 ∷ []) refl $ writes v r us.0)))
        (λ is_back e. lands_as ! e refl (tt, (record { fits = lit< tt }, tt)) $ first ! $
        switches_on ! (get_tag ! (vrt ! refl (fld ! refl (stop !))) (whole !)) $ exec ! 𝓣.C 𝓣.Λ En (draws_by 17 behind)
        Then $
        sets ! (addr ! (from ! (stop !))) refl (tt, tt) $ take_at ! 3 $ move ! (0 ∷ 6 ∷ 8 ∷ []) $
        lends_walk ! tt Walking refl τ refl κw qw walk (l 3) 0 (low walk)
        (λ β γ. let κc = β ∷ κw in let inw = meet_⊑_right (β ∷ []) κw in
        calls_last ! (1 ∷ 2 ∷ 6 ∷ 0 ∷ []) run (draws_of Back).0 (draws_of Back).1 last_drawn (
          (
            (κc, (κw, (κT, tt))),
            (share_within (Share.left qw), (Share.right qw, (rT, tt))),
            (inw, (⊑_trans κc κw κT inw inT', (inT', tt))),
            (record { ref_ptr = (l 3, 0); ghost_name = γ; now = walk }, tt),
            (vptr (l 3) 0 ∷ [], tt),
          ),
          tt,
        ) (asks_that 𝓤 inT) refl
        (and_then ! (get ! refl) (no_more !)) (λ r us. Draws 𝓛 T k walk r us.0 d.side)
        (λ r us. from_back 𝓛 T k walk r us.0 d.side (sym is_side ∙ is_back)) (λ v r us.
        move ! (3 ∷ 4 ∷ 6 ∷ 7 ∷ 8 ∷ []) $ walk_back ! tt Walking refl τ refl κw qw β γ (l 3) 0 us.0 (low us.0)
        (λ z is. ap only (spelled us.0 (z ∷ []) is)) $ give_at ! 3 $
        forget_but ! En (1 ∷ 2 ∷ 3 ∷ 4 ∷ 5 ∷ 10 ∷ []) refl $ writes v r us.0))))))
        (λ over. let all : i ≡ n = omega (arith, nltb→le i n over, t.1) in
        jumps ! $ exec ! 𝓣.C 𝓣.Λ En behind_loop (at_ret En Post) $
        -- Context: [the iterator; the items put back; the tokens of κw, κT and κd; the draws; how the plane ends; its
        -- lender; the way back; the locals]. The law of the iterator is called.
        calls ! (3 ∷ []) run (law 𝓛 𝓜 𝓡 T k).0 (law 𝓛 𝓜 𝓡 T k).1 law_holds (((κT, tt), (rT, tt), tt, tt, tt), tt)
        (asks_that 𝓤 inT) refl (no_more !) (λ r us. ‵ (Law T k) ∷ []) (λ r us. id⊢ 𝓤 _)
        (λ v r us. feq_l ! (λ is_unit. lands_as ! (ap only is_unit) refl (tt, tt) $
        -- The iterator is dropped, and the plane comes back with the final values of its items.
        move ! (0 ∷ 2 ∷ 7 ∷ []) $ use3 𝓛 (‵ (FinalItems T k walk (left T k walk)) ⊛ ‵ (EndsBy T k loan w))
        (by_law T 𝓛 k ℓ walk w (low walk ∷ []) loan begun) $ split ! $
        -- Context: [the final items; how the plane ends; the token of κT; the items put back; the tokens of κw and
        -- κd; the draws; the plane's lender; the way back]
        let table = table_of plane.now in let first_shown = shown T k plane.now in let second = walk_leaves
        (side_of T k) (made T k) first_shown draws in
        let last = written T k table draws in
        move ! (0 ∷ 3 ∷ []) $ use2 𝓛 (‵ (FinalItems T k w second))
        (each_drawn 𝓛 T k draws i all w walk first_shown begun.all t.2) $
        use2 𝓛 (‵ (EndsWith item loan last)) (table_ends 𝓛 T loan k w draws) $
        move ! (0 ∷ 2 ∷ 1 ∷ 5 ∷ 6 ∷ []) $ table_back ! tt T α δ κ κT q qT plane last (λ new told_of.
        sets ! (of_opd ! (unit_lit !)) refl (tt, tt) $ returns ! (look_at ! 0 refl) $ free_all ! refl $
        nothing ! $ feq_i ! (List Val) (vunit ∷ []) (vunit ∷ []) refl $
        ends ! (4 ∷ 5 ∷ 2 ∷ 3 ∷ 1 ∷ 0 ∷ []) En₀ stayed c y vunit tt (new, (tt, tt)) (tt, (tt, tt)) refl $ tells !
        told_of.table $
        told ! (λ k. (told_of.geometry k, told_of.border k)))))) in
        use0 𝓛 (‵ (Puts T k [] w w)) (none_drawn 𝓛 T k w) $
        move ! (1 ∷ 0 ∷ 3 ∷ 4 ∷ 8 ∷ 7 ∷ 2 ∷ []) $
        first ! $ blocks ! $ sets ! (of_opd ! (lit ! tt)) refl (tt, record { fits = lit< tt }) $
        sets ! (of_opd ! (get_in ! (fld ! refl (stop !)) (sub ! 1 refl (whole !)))) refl (tt, record { fits = n_fits })
        $
        forget_but ! En (1 ∷ 2 ∷ 3 ∷ 4 ∷ 10 ∷ []) refl $ blocks ! $ loops ! (tables_of 𝓤 𝓛.H 𝓜 𝓣) Nearer
        (InvImage.wf (λ (t :
        State). n - t.0.0) lt-wf_rel.wf) Now turns ((0, w), omega arith, refl)))))
