-- `fill_last_row` lends its plane to an iterator, takes a row from its end, fills it, and drops the iterator.
-- Generated proofs cannot follow the final state of a plane whose row was lent in this way, so this hand-written
-- proof follows the code.
use Rattle.v_frame_buffer.proofs.Steps.{Goes-dropped, Goes-ref, List, NamedLft, SProp, Sq, Stays, Val, a_type, addr}
use Rattle.v_frame_buffer.proofs.Steps.{after, agg, alloc_all, and_then, at_ret, bounded, dcons, dnil, drop, enter, env}
use Rattle.v_frame_buffer.proofs.Steps.{exec, fact, feq_i, feq_l, first, fld, flft, framed, free_all, from, fsplit, get}
use Rattle.v_frame_buffer.proofs.Steps.{get_in, get_tag, give_at, heard, hop, id⊢, in_variant, inst_fn, lands_as}
use Rattle.v_frame_buffer.proofs.Steps.{lands_last, length, lit<, look_at, look_in_at, meet_⊑_right, move, mut_Tells}
use Rattle.v_frame_buffer.proofs.Steps.{mut_vals, named, no, no_more, nothing, of_opd, param, param_laws, pass_all}
use Rattle.v_frame_buffer.proofs.Steps.{plain, proved, raw, refl, returns, rewrite, sets, skips, stay_dropped, stay_ref}
use Rattle.v_frame_buffer.proofs.Steps.{stop, sub, subst, sym, tables, take_at, through, unit_lit, use1, use2, vrt}
use Rattle.v_frame_buffer.proofs.Steps.{vunit, walk_of, whole, !, [], ‵, ◌$◌, ◌∙◌, ◌∷◌, ◌≡◌, ◌⊑◌, Item, forget_but}
use Rattle.v_frame_buffer.proofs.Steps.{holding, runs, use3, split, ◌⊛◌, ap, only}
use Rattle.v_frame.proofs.Steps.{copied, finally-res, length-replicate, replicate, spot_of}
use Rattle.v_frame.specs.Prelude.{EndsAs, EndsWith, FinalRows, LendsRows, rows_left, table_of}
use Rattle.v_frame.proofs.CallSteps.{asks_that, calls, calls_last, ends, opened, tells, told, unit_fits}
use Rattle.v_frame.proofs.{DrawnItems.last_drawn, ItemKinds.of_rows, ItemKinds.walk_row, Lending.Kept_by}
use Rattle.v_frame.proofs.{ItemKinds.EndsBy, ItemKinds.Law, Lending.lowers, OwnedItems.by_law, BegunWalks.ends_as, WriteItem.law}
use Rattle.v_frame.proofs.{Lending.begins_walk, Lending.table_back}
use Rattle.v_frame.proofs.DrawnLoans.{Put, item_taken, none_taken, tells as put_in}
use Rattle.v_frame.specs.{DrawnItems.put_back, Walk.item_from, Walk.remaining_after}
use Rattle.v_frame.specs.{declared.replay.draw.Side.TheVariants.Back}
use Rattle.std.proofs.{Common.All, Common.None, Common.Some}
use Rattle.v_frame_plane.specs.{declared.rows_mut.RowsMut.RowsMut}
use Rattle.example_held_items.proofs.{HeldItems.draws_item, HeldItems.takes_arm, HeldItems.takes_other}
use Rattle.example_held_items.proofs.{HeldRows.last_filled, held_rows.fill_last_row.Statement.statement}
use Rattle.v_frame_buffer.proofs.{Loans.Back as Back_to, Loans.share_within}
use Rattle.v_frame_buffer.proofs.Slices.{slice_of}
use base.Share
use Rattle.v_frame_plane.specs.contracts.plane.Plane as planes
use Rattle.v_frame_plane.proofs.plane.Plane.rows_mut.Met as rows_mut_met
use Rattle.v_frame_plane.proofs.laws.held_rows_are_the_table.Met as law_met
use Rattle.example_held_items.specs.contracts.held_rows.fill
use Rattle.example_held_items.specs.contracts.held_rows.fill_last_row as f
use Rattle.example_held_items.proofs.held_rows.fill.Met as fill_met
use Rattle.example_held_items.proofs.held_rows.fill_last_row.Code as code
use Rattle.v_frame_plane.proofs.rows_mut.RowsMut as of_walks

pub fill_last_row_spec : {M : Type 1} → statement M
fill_last_row_spec 𝓤 𝓛 𝓜 𝓡 wired T laws copy clone dict met =
    let item = param 0 T in let seen = copied 0 T in let args = bounded (a_type ∷ []) (T, tt) (dcons dict dnil) in let
    function = inst_fn args code.function in
    let 𝓣 = tables 𝓤 𝓛.H 𝓜 𝓡 𝓡.env in let run = framed 𝓤 𝓛.H 𝓜 𝓣 in let c = f.clauses T clone dict 𝓛 𝓜.mem 𝓡.returns in
    let ended = f.ended T clone dict in let val = λ (x : T.Denot). copy.val x ∷ [] in
    let stayed : Stays ended.signature.params ended.kept =
    (stay_ref (0 ∷ []) tt (plain (λ _. planes.the_row seen)), (stay_dropped _ no, tt)) in
    proved 𝓛 ended stayed c 𝓜 𝓡 (
      Goes-ref 𝓛 2 0 tt (plain (λ _. planes.the_row seen)),
      (Goes-dropped 𝓛 2 (plain (λ _. seen)) no (λ κs x w. refl), tt),
    )
    (f.Key.name args) function (code.unfolded 𝓤 𝓛.H 𝓜 𝓡 wired (T, tt) dict)
    (λ κs. (mut_vals, (val, tt))) (λ κs. (mut_Tells (named 0) κs.0 (planes.the_row item), (copy.tells, tt)))
    (λ κs qs bounds a g are.
    let κ = κs.0 in let q = qs.0 in let κT = κs.1.0 in let qT = qs.1.0 in let W = walk_of 𝓛 ended stayed c in
    let plane = a.0 in let value = a.1.0 in let table = table_of plane.now in let width = plane.now.geometry.width in
    let y : W.Ghost = ((κs, qs, bounds, a, (mut_vals plane, (val value, tt))), g) in let Post : Val → SProp 𝓤 = W.post
    y in
    let fits = (((param_laws 0 T laws).lawful 𝓛).typed value (val value) are.1.0).0 in
    opened 𝓛 ended.signature κs qs a (mut_vals plane, (val value, tt)) (κT ⊑ T.lives) (λ inT.
    -- Context: [the tokens of κ and κT; the plane; the value]
    enter ! _ _ _ _ _ $ alloc_all ! (λ l. pass_all ! refl ((tt, tt), (fits, tt)) $ let En = env function.locals l in
    sets ! (addr ! (through ! refl (stop !))) refl (tt, tt) $ move ! (2 ∷ 0 ∷ 1 ∷ []) $ begins_walk 𝓛 𝓜 𝓡 T laws
    of_rows _ _ _ _ _ _ _ _ !
    (rows_mut_met.met 𝓤 𝓛 𝓜 𝓡 (code.calls-v_frame_plane::plane::Plane::rows_mut 𝓡.env wired) T laws) (named 1) κ κT q
    qT plane inT
    (λ i j m. and_then ! (get ! refl) (no_more !)) (λ α δ w begun typed.
    let κw = α ∷ κT in let qw = share_within (Share.left qT) in let rT = Share.right qT in let inside = meet_⊑_right
    (α ∷ []) κT in
    let ℓ : NamedLft = record { mir = named 1; lft = κw } in let loan = record plane { ghost_name = δ } in
    let lowered = (lowers 𝓛 𝓜 𝓡 T laws of_rows ℓ).lowered in
    lands_as ! refl refl typed.0 $ sets ! (of_opd ! (get ! refl)) refl typed.0 $
    -- The final state: the row that was taken, if any, is put back after it was filled.
    let change = λ (row : List T.Denot). replicate (length row) value in let last = put_back Back change
    (item_from Back table) (remaining_after Back table) in
    let Puts : RowsMut T.Denot → Item 𝓤 = λ left. raw (Put 𝓛 T of_rows Back change w left) in
    let filled = last_filled table width value (subst (All (λ row. length row ≡ width)) begun.all begun.tells.1) in
    let finish : (left : RowsMut T.Denot) → rows_left left ≡ remaining_after Back (rows_left w) → Sq 𝓛 (Puts left ∷
    ‵ ((walk_row of_rows ℓ item).own_val left (lowered left ∷ [])) ∷ ‵ (flft κw qw) ∷ ‵ (flft κT rT) ∷
    ‵ (LendsRows item loan w) ∷ Kept_by 𝓛 T α δ κ κT q plane ∷ raw
    (Back_to 𝓛 α κT (Share.left qT)) ∷
    holding 𝓛 En []) (runs 𝓣.C 𝓣.Λ En (after 6 function.body) (at_ret En Post)) = λ left fewer.
    -- The law of the iterator is called.
    calls ! (3 ∷ []) run (law 𝓛 𝓜 𝓡 T of_rows).0 (law 𝓛 𝓜 𝓡 T of_rows).1
    (law_met.met 𝓤 𝓛 𝓜 𝓡 (code.calls-v_frame_plane::laws::held_rows_are_the_table 𝓡.env wired) T laws)
    (((κT, tt), (rT, tt), tt, tt, tt), tt) (asks_that 𝓤 inT) refl (no_more !) (λ r us. ‵ (Law T of_rows) ∷ [])
    (λ r us. id⊢ 𝓤 _) (λ v r us. feq_l ! (λ is_unit. lands_as ! (ap only is_unit) refl (tt, tt) $
    -- Context: [the law; the token of κT; the items to put back; the iterator; the token of κw; the clauses about the
    -- plane; its lender; the way back]
    move ! (0 ∷ 3 ∷ 5 ∷ []) $ use3 𝓛 (‵ (FinalRows item left (rows_left left)) ⊛ ‵ (EndsBy T of_rows loan w))
    (by_law T 𝓛 of_rows ℓ left w (lowered left ∷ []) loan begun) $ split ! $ move ! (0 ∷ 3 ∷ []) $
    let before = put_back Back change (item_from Back (rows_left w)) in let is : before (rows_left left) ≡ last = rw
    (fewer, begun.all) refl in
    use2 𝓛 (‵ (FinalRows item w (before (rows_left left)))) (put_in 𝓛 T of_rows before w left (rows_left left) refl) $
    rewrite ! 0 (λ (rows : List (List T.Denot)). ‵ (FinalRows item w rows)) is refl $
    use2 𝓛 (‵ (EndsWith item loan last)) (ends_as 𝓛 T loan of_rows w last filled.1) $
    move ! (0 ∷ 2 ∷ 1 ∷ []) $ table_back ! tt T α δ κ κT q qT plane last (λ new told_of.
    sets ! (of_opd ! (unit_lit !)) refl (tt, tt) $ returns ! (look_at ! 0 refl) $ free_all ! refl $
    nothing ! $ feq_i ! (List Val) (vunit ∷ []) (vunit ∷ []) refl $ ends ! (4 ∷ 2 ∷ 3 ∷ 1 ∷ 0 ∷ []) ended stayed c y
    vunit tt (new, (tt, tt))
    (tt, (tt, tt)) refl $ tells ! (told_of.table ∙ filled.0) $ told ! (λ k. (told_of.geometry k, told_of.border k))))) in
    -- Context: [the iterator; how the plane ends; the tokens of κw and κT; the plane's lender; the way back; the
    -- value; the locals]. A row is taken.
    sets ! (addr ! (from ! (stop !))) refl (tt, tt) $ take_at ! 3 $ move ! (0 ∷ 1 ∷ 3 ∷ 4 ∷ []) $
    draws_item 𝓛 𝓜 𝓡 T laws Back of_rows _ _ _ _ _ _ _ _ !
    (of_walks.next_back.Met.met 𝓤 𝓛 𝓜 𝓡 (code.calls-v_frame_plane::rows_mut::RowsMut::next_back 𝓡.env wired) T laws) κw
    κT qw rT inside inT
    (spot_of 𝓤 𝓛.H En 3).0 (l 3) w refl (λ i j m. get ! refl)
    -- If there is no row, the iterator is dropped unchanged.
    (λ left none. let drawn = last_drawn rows_left w None left none in give_at ! 3 $ lands_as ! refl refl
    (tt, (record { fits = lit< tt }, tt)) $
    first ! $ takes_other ! (get_tag ! (vrt ! refl (fld ! refl (stop !))) (whole !)) $ skips ! $ exec ! 𝓣.C 𝓣.Λ En
    (after 6 function.body) (at_ret En Post) $
    -- Context: [the iterator; the token of κw; the clauses of the draw; the token of κT; how the plane ends; the
    -- plane's lender; the way back; the value; the locals]
    move ! (7 ∷ 2 ∷ []) $ drop ! $ use1 𝓛 (Puts left) (none_taken 𝓛 T Back of_rows change w left (sym drawn.0)) $
    forget_but ! En [] refl $ finish left drawn.1)
    -- If there is a row, it is filled.
    (λ row left steps is. let drawn = last_drawn rows_left w (Some row) left steps in let row_fits = is.0.1.0 in
    give_at ! 3 $ lands_as ! refl refl (tt, (record { fits = lit< tt }, ((tt, (record { fits = row_fits }, tt)), tt))) $
    first ! $ takes_arm ! (get_tag ! (vrt ! refl (fld ! refl (stop !))) (whole !)) $
    sets ! (of_opd ! (get_in ! (vrt ! refl (fld ! refl (stop !))) (in_variant ! 1 0 refl refl (whole !)))) refl
    (tt, (tt, (record { fits = row_fits }, tt))) $
    sets ! (addr ! (from ! (fld ! refl (hop ! (look_in_at ! 4 (sub ! 0 refl (whole !))) (stop !))))) refl (tt, tt) $
    sets ! (agg ! (and_then ! (get ! refl) (and_then ! (get_in ! (fld ! refl (stop !)) (sub ! 1 refl (whole !)))
    (no_more !)))) refl
    (tt, (tt, (record { fits = row_fits }, tt))) $
    -- Context: [the row; the iterator; the token of κw; the clauses of the draw; the token of κT; how the plane ends;
    -- its lender; the way back; the value; the locals]
    calls_last ! (2 ∷ 4 ∷ 0 ∷ 8 ∷ []) run (fill.ended T clone dict) (fill.clauses T clone dict 𝓛 𝓜.mem 𝓡.returns)
    (fill_met.met 𝓤 𝓛 𝓜 𝓡 (code.calls-example_held_items::held_rows::fill 𝓡.env wired) T laws copy clone dict met)
    (((κw, (κT, tt)), (qw, (rT, tt)), (inside, tt), (row, (value, tt)), (slice_of row ∷ [], (val value, tt))), tt)
    (asks_that 𝓤 inT) refl
    (and_then ! (get ! refl) (and_then ! (get ! refl) (no_more !)))
    (λ u lasting. raw (fact 𝓤 (lasting.0 ≡ change row.now)) ∷ [])
    (λ u lasting. id⊢ 𝓤 _) (λ v u lasting. feq_l ! (λ is_unit. heard ! _ (λ is_filled.
    lands_last ! refl (unit_fits is_unit) $ exec ! 𝓣.C 𝓣.Λ En (after 6 function.body) (at_ret En Post) $
    -- Context: [the tokens of κw and κT; how the row ends; nothing; the iterator; the clauses of the draw; how the
    -- plane ends; the plane's lender; the way back; the locals]
    move ! (2 ∷ []) $ fsplit ! $ fsplit ! $ use1 𝓛 (‵ (EndsAs item row.ghost_name lasting.0))
    (finally-res 𝓛 item row.ghost_name lasting.0) $
    rewrite ! 0 (λ (xs : List T.Denot). ‵ (EndsAs item row.ghost_name xs)) is_filled refl $
    -- Context: [how the row ends; its length; its borrow; the tokens of κw and κT; nothing; the iterator; the clauses
    -- of the draw; how the plane ends; ..]
    move ! (1 ∷ 2 ∷ 5 ∷ 0 ∷ 7 ∷ []) $ drop ! $ drop ! $ drop ! $ use2 𝓛 (Puts left)
    (item_taken 𝓛 T Back of_rows change w left row (sym drawn.0)) $
    move ! (0 ∷ 3 ∷ []) $ forget_but ! En [] refl $ finish left drawn.1))))))))
