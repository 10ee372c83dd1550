-- `write_ends` keeps three pixels, and writes through them after the iterator is dropped. Generated proofs cannot
-- follow the final state of a plane whose pixels were lent in this way, so this hand-written proof follows the code.
use Rattle.v_frame_buffer.proofs.Steps.{Goes-dropped, Goes-ref, Is, Lft, List, NamedLft, Stays, Val, a_type, addr}
use Rattle.v_frame_buffer.proofs.Steps.{alloc_all, and_then, ap, arith, bounded, dcons, dnil, enter, env, feq_i, fld}
use Rattle.v_frame_buffer.proofs.Steps.{free_all, from, get, get_in, get_tag, give_at, in_variant, inst_fn, lands_as}
use Rattle.v_frame_buffer.proofs.Steps.{length, length-append, lit<, look_at, meet_⊑_right, move, mut_Tells, mut_vals}
use Rattle.v_frame_buffer.proofs.Steps.{named, no, no_more, nothing, of_opd, param, param_laws, pass_all, plain, proved}
use Rattle.v_frame_buffer.proofs.Steps.{first, blocks, jumps, exec, after, at_ret, tables, refl, returns, rewrite, sets}
use Rattle.v_frame_buffer.proofs.Steps.{split, stay_dropped, stay_ref, stop, sym, take_at, through, unit_lit, use1, vrt}
use Rattle.v_frame_buffer.proofs.Steps.{vunit, walk_of, whole, !, [], ‵, ◌$◌, ◌++◌, ◌<◌, ◌∙◌, ◌∷◌, ◌⊑◌, ◌⊛◌}
use Rattle.v_frame.proofs.Steps.{copied, spot_of}
use Rattle.v_frame.specs.Prelude.{FinalPixels, pixels_left, row_major, table_of}
use Rattle.v_frame.proofs.CallSteps.{asks_that, both_facts, calls, ends, opened_by, tells, told}
use Rattle.example_held_items.proofs.HeldPixels.{ends_of, gives_back, writes_pixel}
use Rattle.v_frame.proofs.{ItemKinds.of_pixels, Lending.begins_walk, Lending.table_back}
use Rattle.v_frame.proofs.{ItemKinds.EndsBy, ItemKinds.Law, Lending.lowers, OwnedItems.by_law, WriteItem.law}
use Rattle.v_frame.proofs.BegunWalks.{EndsAs, as_table, ends_as}
use Rattle.v_frame_plane.proofs.laws.dropped_pixels_keep_their_values.Met as law_met
use Rattle.v_frame_buffer.proofs.Steps.{framed, id⊢, feq_l, fpick, only, use2, use3}
use Rattle.example_held_items.proofs.{HeldItems.draws_item, HeldItems.takes_arm}
use Rattle.example_held_items.proofs.{held_pixels.write_ends.Statement.statement}
use Rattle.v_frame.specs.{declared.replay.draw.Side.TheVariants.Back, declared.replay.draw.Side.TheVariants.Front}
use Rattle.v_frame_buffer.proofs.{Loans.share_within}
use Rattle.example_held_items.specs.{HeldPixels.with_ends}
use base.Share
use Rattle.v_frame_plane.proofs.plane.Plane.pixels_mut.Met as pixels_mut_met
use Rattle.example_held_items.specs.contracts.held_pixels.write_ends as f
use Rattle.example_held_items.proofs.held_pixels.write_ends.Code as code
use Rattle.v_frame_plane.specs.contracts.plane.Plane as planes
use Rattle.v_frame_plane.proofs.pixels_mut.PixelsMut as of_walks

pub write_ends_spec : {M : Type 1} → statement M
write_ends_spec 𝓤 𝓛 𝓜 𝓡 wired T laws copy clone dict met =
    let item = param 0 T in let seen = copied 0 T in let args = bounded (a_type ∷ []) (T, tt) (dcons dict dnil) in let
    function = inst_fn args code.function in
    let c = f.clauses T clone dict 𝓛 𝓜.mem 𝓡.returns in let ended = f.ended T clone dict in let val = λ (x : T.Denot).
    copy.val x ∷ [] in
    let stayed : Stays ended.signature.params ended.kept = (
      stay_ref (0 ∷ []) tt (plain (λ _. planes.the_row seen)),
      (stay_dropped _ no, (stay_dropped _ no, (stay_dropped _ no, tt))),
    ) in
    let Walk = walk_of 𝓛 ended stayed c in let goes = Goes-dropped 𝓛 2 (plain (λ _. seen)) no (λ κs x w. refl) in
    proved 𝓛 ended stayed c 𝓜 𝓡 (Goes-ref 𝓛 2 0 tt (plain (λ _. planes.the_row seen)), (goes, (goes, (goes, tt))))
    (f.Key.name args) function (code.unfolded 𝓤 𝓛.H 𝓜 𝓡 wired (T, tt) dict)
    (λ κs. (mut_vals, (val, (val, (val, tt))))) (λ κs.
    (mut_Tells (named 0) κs.0 (planes.the_row item), (copy.tells, (copy.tells, (copy.tells, tt)))))
    (λ κs qs bounds a g are.
    let κ = κs.0 in let q = qs.0 in let κT = κs.1.0 in let qT = qs.1.0 in
    let plane = a.0 in let x = a.1.0 in let y = a.1.1.0 in let z = a.1.1.1.0 in
    let wt = λ (w : T.Denot) (is : Is item w (val w)). (((param_laws 0 T laws).lawful 𝓛).typed w (val w) is).0 in
    let wx = wt x are.1.0 in let wy = wt y are.1.1.0 in let wz = wt z are.1.1.1.0 in
    let bound : Walk.Ghost = ((κs, qs, bounds, a, (mut_vals plane, (val x, (val y, (val z, tt))))), g) in
    let pixels = row_major (table_of plane.now) in let Many = 2 < length pixels in
    opened_by 𝓛 ended.signature κs qs a bound.0.4 _ ((κT ⊑ T.lives) × Many) (both_facts 𝓤 (κT ⊑ T.lives) Many)
    (λ known. let inT = known.0 in
    -- Context: [the tokens of κ and κT; the plane; the three values]
    enter ! _ _ _ _ _ $ alloc_all ! (λ l. pass_all ! refl ((tt, tt), (wx, (wy, (wz, tt)))) $
    sets ! (addr ! (through ! refl (stop !))) refl (tt, tt) $ move ! (2 ∷ 0 ∷ 1 ∷ []) $ begins_walk 𝓛 𝓜 𝓡 T laws
    of_pixels _ _ _ _ _ _ _ _ !
    (pixels_mut_met.met 𝓤 𝓛 𝓜 𝓡 (code.calls-v_frame_plane::plane::Plane::pixels_mut 𝓡.env wired) T laws) (named 1) κ κT
    q qT plane inT
    (λ i j m. and_then ! (get ! refl) (no_more !)) (λ α δ walk begun typed.
    let κ' : Lft = α ∷ κT in let s = share_within (Share.left qT) in let rT = Share.right qT in let inside : κ' ⊑ κT =
    meet_⊑_right (α ∷ []) κT in
    let ℓ : NamedLft = record { mir = named 1; lft = κ' } in let loan = record plane { ghost_name = δ } in
    let lowered = (lowers 𝓛 𝓜 𝓡 T laws of_pixels ℓ).lowered in
    lands_as ! refl refl typed.0 $ sets ! (of_opd ! (get ! refl)) refl typed.0 $
    -- Context: [the resources of the iterator; how the plane ends; the tokens of κ' and κT; its lender; the way back;
    -- the three values; the locals]
    let 𝓣 = tables 𝓤 𝓛.H 𝓜 𝓡 𝓡.env in let En = env function.locals l in let τ = (spot_of 𝓤 𝓛.H En 5).0 in
    let last_met = of_walks.next_back.Met.met 𝓤 𝓛 𝓜 𝓡
    (code.calls-v_frame_plane::pixels_mut::PixelsMut::next_back 𝓡.env wired) T laws in
    let first_met = of_walks.next.Met.met 𝓤 𝓛 𝓜 𝓡 (code.calls-v_frame_plane::pixels_mut::PixelsMut::next 𝓡.env wired) T
    laws in
    let some₀ : 2 < length (pixels_left walk) = omega (arith, known.1, ap length begun.all) in
    -- The last pixel.
    sets ! (addr ! (from ! (stop !))) refl (tt, tt) $ take_at ! 5 $ move ! (0 ∷ 1 ∷ 3 ∷ 4 ∷ []) $
    draws_item 𝓛 𝓜 𝓡 T laws Back of_pixels _ _ _ _ _ _ _ _ ! last_met κ' κT s rT inside inT τ (l 5) walk refl
    (λ i j m. get ! refl) (λ one none.
    absurd (omega (arith, some₀, ap length none.0)))
    (λ end one last _. give_at ! 5 $ lands_as ! refl refl (tt, (record { fits = lit< tt }, (tt, tt))) $
    -- Context: [the pixel; the iterator; the token of κ'; how it was drawn; the token of κT; ..]. The first pixel.
    let some₁ : 1 < length (pixels_left one) = omega
    (arith, some₀, ap length last, length-append (pixels_left one) (end.now ∷ [])) in
    sets ! (addr ! (from ! (stop !))) refl (tt, tt) $ take_at ! 5 $ move ! (0 ∷ 2 ∷ 3 ∷ 5 ∷ []) $
    draws_item 𝓛 𝓜 𝓡 T laws Front of_pixels _ _ _ _ _ _ _ _ ! first_met κ' κT s rT inside inT τ (l 5) one refl
    (λ i j m. get ! refl) (λ two none.
    absurd (omega (arith, some₁, ap length none.0)))
    (λ start two foremost _. give_at ! 5 $ lands_as ! refl refl (tt, (record { fits = lit< tt }, (tt, tt))) $
    -- The last pixel but one.
    let some₂ : 0 < length (pixels_left two) = omega (arith, some₁, ap length foremost) in
    sets ! (addr ! (from ! (stop !))) refl (tt, tt) $ take_at ! 5 $ move ! (0 ∷ 2 ∷ 3 ∷ 5 ∷ []) $
    draws_item 𝓛 𝓜 𝓡 T laws Back of_pixels _ _ _ _ _ _ _ _ ! last_met κ' κT s rT inside inT τ (l 5) two refl
    (λ i j m. get ! refl) (λ three none.
    absurd (omega (arith, some₂, ap length none.0)))
    (λ before three next_to _. give_at ! 5 $ lands_as ! refl refl (tt, (record { fits = lit< tt }, (tt, tt))) $
    -- Context: [the pixel; the iterator; the token of κ'; how it was drawn; the token of κT; the first pixel, and how
    -- it was drawn; the last one, and how it was drawn; ..]
    first ! $ blocks ! $ first ! $ blocks ! $ takes_arm ! (get_tag ! (vrt ! refl (fld ! refl (stop !))) (whole !)) $
    takes_arm ! (get_tag ! (vrt ! refl (fld ! refl (stop !))) (whole !)) $ takes_arm !
    (get_tag ! (vrt ! refl (fld ! refl (stop !))) (whole !)) $
    sets ! (of_opd ! (get_in ! (vrt ! refl (fld ! refl (stop !))) (in_variant ! 1 0 refl refl (whole !)))) refl
    (tt, tt) $
    sets ! (of_opd ! (get_in ! (vrt ! refl (fld ! refl (stop !))) (in_variant ! 1 0 refl refl (whole !)))) refl
    (tt, tt) $
    sets ! (of_opd ! (get_in ! (vrt ! refl (fld ! refl (stop !))) (in_variant ! 1 0 refl refl (whole !)))) refl
    (tt, tt) $
    jumps ! $ exec ! 𝓣.C 𝓣.Λ En (after 10 function.body) (at_ret En (Walk.post bound)) $
    -- The value that is written twice is copied.
    move ! (1 ∷ []) $ move ! (14 ∷ []) $ use1 𝓛 (‵ (item.own_val z (val z)) ⊛ ‵ (item.own_val z (val z)))
    ((copy.copies _ 𝓤 𝓛).twice z (val z)) $ split ! $
    -- Context: [the last value, twice; the final values of the iterator; the last but one; the token of κ'; how it
    -- was drawn; the token of κT; the first pixel, and how it was drawn; the last one, and how it was drawn; how the
    -- plane ends; its lender; the way back; the other values; the locals]
    move ! (7 ∷ 4 ∷ 0 ∷ []) $ writes_pixel ! T copy κ' s start z wz (λ i j m n v. of_opd ! (get ! refl))
    (λ i j m n v. through ! refl (stop !)) $
    move ! (4 ∷ 1 ∷ 14 ∷ []) $ writes_pixel ! T copy κ' s before y wy (λ i j m n v. of_opd ! (get ! refl))
    (λ i j m n v. through ! refl (stop !)) $
    move ! (2 ∷ 1 ∷ 13 ∷ []) $
    writes_pixel ! T copy κ' s (record start { now = z }) x wx (λ i j m n v. of_opd ! (get ! refl))
    (λ i j m n v. through ! refl (stop !)) $
    move ! (8 ∷ 1 ∷ 3 ∷ []) $ writes_pixel ! T copy κ' s end z wz (λ i j m n v. of_opd ! (get ! refl))
    (λ i j m n v. through ! refl (stop !)) $
    -- Context: [the last pixel; the token of κ'; the first; the last but one; the iterator; how the last but one was
    -- drawn; the token of κT; how the first and the last were; how the plane ends; the lender's part; the way back].
    -- The law of the iterator is called.
    calls ! (6 ∷ []) (framed 𝓤 𝓛.H 𝓜 𝓣) (law 𝓛 𝓜 𝓡 T of_pixels).0 (law 𝓛 𝓜 𝓡 T of_pixels).1
    (law_met.met 𝓤 𝓛 𝓜 𝓡 (code.calls-v_frame_plane::laws::dropped_pixels_keep_their_values 𝓡.env wired) T laws)
    (((κT, tt), (rT, tt), tt, tt, tt), tt) (asks_that 𝓤 inT) refl (no_more !) (λ r us. ‵ (Law T of_pixels) ∷ [])
    (λ r us. id⊢ 𝓤 _) (λ v r us. feq_l ! (λ is_unit. lands_as ! (ap only is_unit) refl (tt, tt) $
    -- Context: [the law; the token of κT; the last pixel; the token of κ'; the first; the last but one; the iterator;
    -- how the last but one was drawn, and the first, and the last; how the plane ends; ..]
    move ! (0 ∷ 6 ∷ 10 ∷ []) $ use3 𝓛 (‵ (FinalPixels item three (pixels_left three)) ⊛ ‵ (EndsBy T of_pixels loan walk))
    (by_law T 𝓛 of_pixels ℓ three walk (lowered three ∷ []) loan begun) $ split ! $
    -- Context: [the final values; how the plane ends; the token of κT; the last pixel; the token of κ'; the first;
    -- the last but one; how each was drawn; its lender; the way back]
    move ! (6 ∷ 7 ∷ 0 ∷ []) $ gives_back ! Back T κ' two three before y (pixels_left three) $
    move ! (5 ∷ 6 ∷ 0 ∷ []) $ gives_back ! Front T κ' one two start x (pixels_left three ++ y ∷ []) $
    move ! (3 ∷ 5 ∷ 0 ∷ []) $ gives_back ! Back T κ' walk one end z (x ∷ (pixels_left three ++ y ∷ [])) $
    rewrite ! 0 (λ (xs : List T.Denot). ‵ (FinalPixels item walk xs))
    (ends_of pixels (pixels_left one) (pixels_left two) (pixels_left three)
    start.now before.now end.now x y z (sym begun.all ∙ last) foremost next_to) refl $
    let written = with_ends x y z pixels in
    use2 𝓛 (‵ (EndsAs 𝓛 T loan of_pixels written)) (ends_as 𝓛 T loan of_pixels walk written tt) $ fpick ! (λ shows.
    -- Context: [how the plane ends; the tokens of κT and κ'; its lender; the way back; the locals]
    move ! (0 ∷ 2 ∷ 1 ∷ []) $ table_back ! tt T α δ κ κT q qT plane (as_table 𝓛 T loan of_pixels written) (λ new told_of.
    -- Context: [the token of κT; the plane; the token of κ; the locals]
    sets ! (of_opd ! (unit_lit !)) refl (tt, tt) $ returns ! (look_at ! 0 refl) $ free_all ! refl $
    nothing ! $ nothing ! $ nothing ! $ feq_i ! (List Val) (vunit ∷ []) (vunit ∷ []) refl $
    ends ! (6 ∷ 4 ∷ 5 ∷ 1 ∷ 2 ∷ 3 ∷ 0 ∷ []) ended stayed c bound vunit tt (new, (tt, (tt, (tt, tt))))
    (tt, (tt, (tt, (tt, tt)))) refl $
    tells ! (ap row_major told_of.table ∙ shows) $ told ! (λ k. (told_of.geometry k, told_of.border k)))))))))))))
