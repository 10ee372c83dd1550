-- `pixels_mut` makes the iterator over pixels from the iterator over rows, whose slice is the whole buffer. Generated
-- proofs cannot follow a slice that lies two fields deep, so this hand-written proof follows the code.
use Rattle.v_frame_buffer.proofs.Steps.{◌≡◌, ◌^◌, ◌<◌, [], ◌∷◌, length, refl, sym, ap, ◌∙◌, arith, proved, id⊢, ◌⊑◌, use1}
use Rattle.v_frame_buffer.proofs.Steps.{fact, tables, param, layouts, mut_vals, mut_Tells, plain, named_lft, Array}
use Rattle.v_frame_buffer.proofs.Steps.{shows, heard, nothing, peeks, framed, walk_of, Stays, inst_fn, a_type, named}
use Rattle.v_frame_buffer.proofs.Steps.{alloc_all, free_all, get, lands_as, look_at, pass_all, sets, through, ‵, raw}
use Rattle.v_frame_buffer.proofs.Steps.{◌$◌, !, keep, move, rewrite, addr, and_then, enter, no_more, returns, stop}
use Rattle.v_frame_buffer.proofs.Steps.{frame, Item, no, stay_dropped, param_laws, All, append-nil, subst, follows}
use Rattle.v_frame_buffer.proofs.Steps.{Goes-spent_ref}
use Rattle.v_frame_buffer.proofs.CallSteps.{asks_both, asks_that, calls, ends, opened, tells, told}
use Rattle.v_frame_plane.specs.contracts.plane.Plane.{the_row}
use Rattle.v_frame_plane.specs.contracts.plane.Plane.rows_mut
use Rattle.v_frame_plane.specs.Lends.{LendsBuffer}
use Rattle.v_frame_plane.specs.LendsTable.{LendsPixelTable}
use Rattle.v_frame_plane.proofs.lent.EndsTable.{lends_pixel_table}
use Rattle.v_frame_plane.specs.contracts.plane.Plane.pixels_mut
use Rattle.v_frame_plane.specs.contracts.pixels_mut.PixelsMut as pixels
use Rattle.v_frame_plane.specs.contracts.rows_mut.RowsMut as rows
use Rattle.v_frame_plane.specs.contracts.pixels_mut.PixelsMut.new
use Rattle.v_frame_plane.proofs.pixels_mut.PixelsMut.new.Met as new_met
use Rattle.v_frame_plane.proofs.pixels_mut.PixelsMut.TheLaws.{the_row_laws as pixels_laws}
use Rattle.v_frame_plane.proofs.rows_mut.RowsMut.TheLaws.{the_row_laws as rows_laws}
use Rattle.v_frame_plane.specs.declared.rows_mut.RowsMut.{RowsMut}
use Rattle.v_frame_plane.proofs.plane.Plane.rows_mut.Met as rows_mut_met
use Rattle.v_frame_plane.specs.Cursor.{PixelsAreCountable}
use Rattle.v_frame_raster.specs.Raster.{table_of, with_entries}
use Rattle.v_frame_plane.specs.FinalRows.{WritesEachTable}
use Rattle.v_frame_raster.specs.Table.{row_major}
use Rattle.v_frame_plane.specs.PixelsLeft.{pixels_left}
use Rattle.v_frame_plane.specs.FinalPixels.{BeginsOver}
use Rattle.v_frame_plane.proofs.iterators.WalkRuns.{lends_in_order, lends_in_reverse}
use Rattle.v_frame_plane.specs.RowsLeft.{rows_left, rows_slice, LendsRowsInOrder, LendsRowsInReverse}
use Rattle.v_frame_plane.proofs.plane.Plane.pixels_mut.Statement.{statement}
use Rattle.v_frame_plane.proofs.plane.Plane.pixels_mut.Code as code

pub pixels_mut_spec : {M : Type 1} → statement M
pixels_mut_spec 𝓤 𝓛 𝓜 𝓡 wired T laws =
    let item = param 0 T in let args = layouts (a_type ∷ []) (T, tt) in let run = framed 𝓤 𝓛.H 𝓜
    (tables 𝓤 𝓛.H 𝓜 𝓡 𝓡.env) in
    let En = pixels_mut.ended T in let c = pixels_mut.clauses T 𝓛 𝓜.mem 𝓡.returns in let Plane = the_row item in
    let stayed : Stays En.signature.params En.kept = (stay_dropped _ no, tt) in
    proved 𝓛 En stayed c 𝓜 𝓡 (Goes-spent_ref 𝓛 2 (0 ∷ []) tt (plain (λ _. Plane)), tt)
    (pixels_mut.Key.name args) (inst_fn args code.function) (code.unfolded 𝓤 𝓛.H 𝓜 𝓡 wired (T, tt))
    (λ κs. (mut_vals, tt)) (λ κs. (mut_Tells (named 0) κs.0 Plane, tt)) (λ κs qs bounds a g are.
    let self = a.0 in let ℓ = named_lft 2 0 tt κs in let Rows = rows.the_row ℓ item in let Pixels = pixels.the_row ℓ
    item in
    let bound : (walk_of 𝓛 En stayed c).Ghost = ((κs, qs, bounds, a, (mut_vals self, tt)), g) in
    let Ends : RowsMut T.Denot → Item 𝓤 = λ x. ‵ (LendsBuffer item self (rows_slice x)) in
    opened 𝓛 En.signature κs qs a (mut_vals self, tt) (κs.1.0 ⊑ T.lives) (λ inT.
    enter ! _ _ _ _ _ $ alloc_all ! (λ l. pass_all ! refl ((tt, tt), tt) $
    sets ! (addr ! (through ! refl (stop !))) refl (tt, tt) $
    -- Context: [the tokens of κ and κT; self; the locals]
    calls ! (0 ∷ 1 ∷ 2 ∷ []) run (rows_mut.ended T) (rows_mut.clauses T 𝓛 𝓜.mem 𝓡.returns)
    (rows_mut_met.met 𝓤 𝓛 𝓜 𝓡 (code.calls-v_frame_plane::plane::Plane::rows_mut 𝓡.env wired) T laws) bound
    (asks_that 𝓤 inT) refl
    (and_then ! (get ! refl) (no_more !))
    (λ r ws. Ends r ∷ raw
    (fact 𝓤 (rows_left r ≡ table_of self.now)) ∷
    raw (fact 𝓤 (WritesEachTable self.now r)) ∷
    raw (fact 𝓤 (All (λ row. length row ≡ self.now.geometry.width) (rows_left r))) ∷ raw
    (fact 𝓤 (PixelsAreCountable [] (rows_left r) [])) ∷
    raw (fact 𝓤 (length (rows_left r) < 2 ^ 63)) ∷ raw (fact 𝓤 (LendsRowsInOrder T.Denot)) ∷ raw
    (fact 𝓤 (LendsRowsInReverse T.Denot)) ∷ [])
    (λ r ws. id⊢ 𝓤 _) (λ v r ws. peeks ! Rows _ (shows 𝓛 Rows) r (v ∷ []) (λ is.
    lands_as ! refl refl (((rows_laws ℓ item (param_laws 0 T laws)).lawful 𝓛).typed r (v ∷ []) is).0 $
    move ! (2 ∷ 3 ∷ 5 ∷ []) $ heard ! _ (λ shown. heard ! _ (λ written. heard ! _ (λ countable.
    -- Context: [the rows; how the plane ends; four facts; the tokens; nothing; the locals]
    calls ! (6 ∷ 7 ∷ 0 ∷ []) run (new.ended T) (new.clauses T 𝓛 𝓜.mem 𝓡.returns)
    (new_met.met 𝓤 𝓛 𝓜 𝓡 (code.calls-v_frame_plane::pixels_mut::PixelsMut::new 𝓡.env wired) T laws)
    ((κs, qs, bounds, (r, tt), (v ∷ [], tt)), tt) (asks_both 𝓤 inT countable) refl (and_then ! (get ! refl) (no_more !))
    (λ walk ws. raw (fact 𝓤 (walk.rows ≡ r)) ∷ raw (fact 𝓤 (walk.front.now ≡ [])) ∷ raw (fact 𝓤 (walk.back.now ≡ [])) ∷
    [])
    (λ walk ws. id⊢ 𝓤 _) (λ w walk ws. peeks ! Pixels _ (shows 𝓛 Pixels) walk (w ∷ []) (λ its.
    lands_as ! refl refl (((pixels_laws ℓ item (param_laws 0 T laws)).lawful 𝓛).typed walk (w ∷ []) its).0 $
    move ! (1 ∷ 2 ∷ 3 ∷ []) $ heard ! _ (λ rows_are. heard ! _ (λ front. heard ! _ (λ back.
    -- Context: [the pixels; the tokens; nothing; how the plane ends; ..; the locals]
    returns ! (look_at ! 0 refl) $ free_all ! refl $ keep ! (0 ∷ 1 ∷ 2 ∷ 4 ∷ []) $ nothing ! $
    ends ! (2 ∷ 3 ∷ 0 ∷ 1 ∷ []) En stayed c bound w walk (tt, tt) (tt, tt) refl $
    rewrite ! 0 Ends (sym rows_are) refl $
    let all : pixels_left walk ≡ row_major (rows_left r) = rw (front, back, rows_are)
    (append-nil (row_major (rows_left r))) in
    let begins : BeginsOver self.now walk = record {
      front = front;
      rows = ap rows_left rows_are ∙ shown;
      back = back;
      written = subst (λ (x : RowsMut T.Denot). WritesEachTable self.now x) (sym rows_are) written;
    } in
    use1 𝓛 (‵ (LendsPixelTable item self walk)) (lends_pixel_table 𝓛 item self walk begins) $ frame ! $
    tells ! (all ∙ ap row_major shown) $
    tells ! (omega (arith, ap length all, countable.bound)) $ tells ! (lends_in_order pixels_left) $ told !
    (lends_in_reverse pixels_left))))))))))))))
