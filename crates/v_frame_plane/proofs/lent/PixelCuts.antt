-- A call of `cut_first` or `cut_last`, and the effect of `next` or `next_back`, which makes this call, on the final
-- values. Assumes `Logic`.
-- - cuts_one: the slice is passed to the call, which returns its pixel and the rest. The final slice consists of
--   these.
-- - takes_near, fewer, steps: the final iterator consists of the pixel and the remaining pixels. The remaining pixels
--   are countable, and the pixel is the next one at this end.
use Rattle.v_frame_buffer.proofs.Steps.{◌≡◌, ◌^◌, ◌<◌, List, [], ◌∷◌, ◌++◌, length, MutBor, refl, ap, ◌∙◌, arith, Lft}
use Rattle.v_frame_buffer.proofs.Steps.{Share, flft, SProp, ent, sep, wand, id⊢, ◌⊑◌, fact, Array, shows, param}
use Rattle.v_frame_buffer.proofs.Steps.{RattleType, MutRef, MutSlice, slice_val, heard, only, peeks, triple_of}
use Rattle.v_frame_buffer.proofs.Steps.{Contract, named, Val, of_list, vcons, vnil, vptr, vstruct, Ura, Item, Seq, ‵}
use Rattle.v_frame_buffer.proofs.Steps.{raw, ◌⊛◌, ◌$◌, ◌∵◌, !, qed, assume, done, drop, each, feq_l, fjoin3, fpick}
use Rattle.v_frame_buffer.proofs.Steps.{fsplit, fsplit3, move, rewrite, split, use1, use3, Logic, sem, append_assoc}
use Rattle.v_frame_buffer.proofs.Steps.{both_by, follows_both, length-append, GName, closing, Triple, Callee, Place}
use Rattle.v_frame_buffer.proofs.Steps.{Opd as Operand, call, seq, Calls, Env, Loops, FmC, Post, lands, regoal, runs}
use Rattle.v_frame_buffer.proofs.Steps.{Opds}
use mir.Syntax.{Body}
use Rattle.v_frame_raster.specs.Table.{row_major}
use Rattle.v_frame_plane.specs.RowsLeft.{rows_left}
use Rattle.v_frame_plane.specs.FinalRows.{EndsAs}
use Rattle.v_frame_plane.specs.FinalPixels.{PixelEndsAs, FinalPixels}
use Rattle.v_frame_plane.specs.contracts.pixels_mut.cut_first
use Rattle.v_frame_plane.specs.declared.pixels_mut.PixelsMut.{PixelsMut}
use Rattle.v_frame_buffer.proofs.CallSteps.{asks_both, calls}
use Rattle.v_frame_buffer.proofs.Loans.{at_one}
use Rattle.v_frame_plane.proofs.lent.PixelSides.{cut_clauses}
use Rattle.v_frame_plane.proofs.lent.PixelParts.{of_parts, parts_of}
use Rattle.v_frame_plane.proofs.lent.Sides.{Side, at_front, at_back, near, far, put, Countable, walk_by, Steps, Takes}

-- The list that results when a pixel and the rest are joined at one end.
abbrev Put : Type 0 → Type 0
Put X = X → List X → List X

abbrev pub cut_of : {X : Type 0} → MutBor X → MutBor (List X) → Val
cut_of pixel rest = vstruct (vcons (vptr pixel.ref_ptr.0 pixel.ref_ptr.1)
    (vcons (slice_val rest.ref_ptr (length rest.now)) vnil))

module _ {M : Type 1} {𝓤 : Ura M} (𝓛 : Logic 𝓤) (T : RattleType) (s : Side) where
  abbrev pub Cut : Contract 𝓤
  Cut = triple_of 𝓛 (cut_first.signature T) (closing 𝓛 (cut_first.ended T) (cut_clauses 𝓛 T s))

  abbrev pub asked : (κ κT : Lft) (q qT : Share) → κ ⊑ κT → MutBor (List T.Denot) → Cut.Ghost
  asked κ κT q qT inT x = (
    (
      (κ, (κT, tt)),
      (q, (qT, tt)),
      (inT, tt),
      (x, tt),
      (slice_val x.ref_ptr (length x.now) ∷ [], tt),
    ),
    tt,
  )

module _ {M : Type 1} {𝓤 : Ura M} {𝓛 : Logic 𝓤} {K : Type 0} {Γ : List (Item 𝓤)} {E : Env 𝓤 𝓛.H} {C : Calls 𝓤 𝓛.H}
    {Λ : Loops 𝓤 𝓛.H} {f : Callee} {xs :
    List Operand} {d : Place} {rest : Body} {p : Post 𝓤 𝓛.H} where
  pub cuts_one : K → FmC 𝓤 𝓛.H 𝓛.laws C → (T : RattleType) (s : Side) → Triple 𝓤 (C f) (Cut 𝓛 T s) → (κ κT : Lft)
      (q qT : Share) (inT : κ ⊑ κT) →
      κT ⊑ T.lives → (x : MutBor (List T.Denot)) → 0 < length x.now
      → let Slice = MutSlice (named 0) κ (param 0 T) in let Pixel = MutRef (named 0) κ (param 0 T) in let y = asked 𝓛 T
      s κ κT q qT inT x in
      Opds K 𝓛 (raw ((Cut 𝓛 T s).pre y) ∷ Γ) E xs ((Cut 𝓛 T s).args y) →
      ((pixel : MutBor T.Denot) (rest' : MutBor (List T.Denot)) → x.now ≡ put s pixel.now rest'.now → length rest'.now
      < 2 ^ 64
      → Seq K 𝓛 (‵ (Pixel.own_val pixel (vptr pixel.ref_ptr.0 pixel.ref_ptr.1 ∷ [])) ∷ ‵
      (Slice.own_val rest' (slice_val rest'.ref_ptr (length rest'.now) ∷
      [])) ∷
      ‵ (follows_both (Array (param 0 T) 0) (param 0 T) (Array (param 0 T) 0) x.ghost_name pixel.ghost_name
      rest'.ghost_name (put s)) ∷ ‵ (flft κ q) ∷
      ‵ (flft κT qT) ∷ Γ) (lands C Λ E d (cut_of pixel rest') rest p))
      → Seq K 𝓛 (‵ (Slice.own_val x (slice_val x.ref_ptr (length x.now) ∷ [])) ∷ ‵ (flft κ q) ∷ ‵ (flft κT qT) ∷ Γ)
      (runs C Λ E (seq (call f xs d) rest) p)
  cuts_one t fm T s met κ κT q qT inT lives x some_left os k =
      let Slice = MutSlice (named 0) κ (param 0 T) in let Pixel = MutRef (named 0) κ (param 0 T) in
      calls t (1 ∷ 2 ∷ 0 ∷ []) fm (cut_first.ended T) (cut_clauses 𝓛 T s) met (asked 𝓛 T s κ κT q qT inT x)
      (asks_both 𝓤 lives some_left) refl os
      (λ r ws. ‵ (follows_both (Array (param 0 T) 0) (param 0 T) (Array (param 0 T) 0) x.ghost_name r.0.ghost_name
      r.1.ghost_name (put s)) ∷
      raw (fact 𝓤 (x.now ≡ put s r.0.now r.1.now)) ∷ []) (λ r ws. id⊢ 𝓤 _) (λ v r ws.
      fpick t (λ vss. fsplit t $ feq_l t (λ e. fsplit t $ move t (1 ∷ []) $ fsplit t $
      -- Context: [the rest; nothing; the pixel; how the slice ends; a fact; the tokens; nothing]
      peeks t Slice _ (shows 𝓛 Slice) r.1 vss.1.0 (λ two. rewrite t 0 (λ (us : List Val). ‵ (Slice.own_val r.1 us))
      two.0.0 refl $
      move t (2 ∷ []) $ peeks t Pixel _ (shows 𝓛 Pixel) r.0 vss.0
      (λ one. rewrite t 0 (λ (us : List Val). ‵ (Pixel.own_val r.0 us)) one.0 refl $
      move t (2 ∷ 7 ∷ 4 ∷ []) $ drop t $ drop t $ heard t _ (λ is.
      regoal t (λ (u : Val). lands C Λ E d u rest p)
      (ap only e ∙ ap (λ (us : List Val). vstruct (of_list (us ++ (vss.1.0 ++ [])))) one.0 ∙
      ap (λ (us : List Val). vstruct (of_list (vptr r.0.ref_ptr.0 r.0.ref_ptr.1 ∷ (us ++ [])))) two.0.0) refl $
      k r.0 r.1 is two.0.1.0))))))

module _ {M : Type 1} {𝓤 : Ura M} (𝓛 : Logic 𝓤) (T : RattleType) where
  abbrev Whole : RattleType
  Whole = Array T 0

  abbrev Ends : GName → List T.Denot → SProp 𝓤
  Ends name entries = sem 𝓛 (EndsAs T name entries)

  abbrev One : GName → T.Denot → SProp 𝓤
  One name pixel = sem 𝓛 (PixelEndsAs T name pixel)

  -- The final value of a split slice consists of its pixel and the rest.
  pub ends_put : (put : Put T.Denot) (whole pixel rest : GName) (w : T.Denot) (xs : List T.Denot)
      → ent 𝓤 (sep 𝓤 (sem 𝓛 (follows_both Whole T Whole whole pixel rest put)) (sep 𝓤 (One pixel w) (Ends rest xs)))
      (Ends whole (put w xs))
  unfolding both_by
  ends_put put whole pixel rest w xs = at_one 𝓛 (λ (p : T.Denot × List T.Denot). sep 𝓤 (One pixel p.0) (Ends rest p.1))
      (λ p. Ends whole (put p.0 p.1)) (w, xs)

  module _ (old : PixelsMut T.Denot) (pixel : MutBor T.Denot) (rest : MutBor (List T.Denot)) where
    abbrev Held : Type 0
    Held = T.Denot × List T.Denot

    pub takes_near : (s : Side) → (near s old).now ≡ put s pixel.now rest.now →
        (countable : Countable s rest.now (rows_left old.rows) (far s old).now) →
        ent 𝓤 (sem 𝓛 (follows_both Whole T Whole (near s old).ghost_name pixel.ghost_name rest.ghost_name (put s)))
        (sem 𝓛 (Takes s T old pixel (walk_by s rest old.rows (far s old) countable)))
    unfolding FinalPixels
    takes_near at_front is countable =
        let new = walk_by at_front rest old.rows old.back countable in
        let Both : Held → SProp 𝓤 = λ held. sep 𝓤 (One pixel.ghost_name held.0) (sem 𝓛 (FinalPixels T new held.1)) in
        qed 𝓛 (‵ (follows_both Whole T Whole old.front.ghost_name pixel.ghost_name rest.ghost_name ◌∷◌) ∷ []) ∵
        each ! (λ held. wand 𝓤 (Both held) (sem 𝓛 (FinalPixels T old (held.0 ∷ held.1)))) (λ held.
        assume ! (‵ (PixelEndsAs T pixel.ghost_name held.0) ⊛ ‵ (FinalPixels T new held.1)) $ split ! $
        move ! (1 ∷ []) $ fpick ! (λ ps. fpick ! (λ are. fsplit3 ! $
        -- Context: [the front; the rows; the back; the pixel; how the front was cut]
        move ! (4 ∷ 3 ∷ 0 ∷ []) $ use3 𝓛 (‵ (EndsAs T old.front.ghost_name (held.0 ∷ ps.front)))
        (ends_put ◌∷◌ old.front.ghost_name pixel.ghost_name rest.ghost_name held.0 ps.front) $
        move ! (0 ∷ 1 ∷ 2 ∷ []) $ fjoin3 ! $
        use1 𝓛 (‵ (FinalPixels T old (held.0 ∷ held.1)))
        (of_parts 𝓛 T old (held.0 ∷ held.1) (parts_of (held.0 ∷ ps.front) ps.rows ps.back)
        (record {
          joined = ap (λ xs. held.0 ∷ xs) are.joined;
          front = omega (arith, are.front, ap length is);
          rows =
              are.rows;
          back = are.back;
        })) $ done !)))
    takes_near at_back is countable =
        let new = walk_by at_back rest old.rows old.front countable in
        let Both : Held → SProp 𝓤 = λ held. sep 𝓤 (One pixel.ghost_name held.0) (sem 𝓛 (FinalPixels T new held.1)) in
        qed 𝓛 (‵ (follows_both Whole T Whole old.back.ghost_name pixel.ghost_name rest.ghost_name (put at_back)) ∷ []) ∵
        each ! (λ held. wand 𝓤 (Both held) (sem 𝓛 (FinalPixels T old (held.1 ++ held.0 ∷ [])))) (λ held.
        assume ! (‵ (PixelEndsAs T pixel.ghost_name held.0) ⊛ ‵ (FinalPixels T new held.1)) $ split ! $
        move ! (1 ∷ []) $ fpick ! (λ ps. fpick ! (λ are. fsplit3 ! $
        -- Context: [the front; the rows; the back; the pixel; how the back was cut]
        move ! (4 ∷ 3 ∷ 2 ∷ []) $ use3 𝓛 (‵ (EndsAs T old.back.ghost_name (ps.back ++ held.0 ∷ [])))
        (ends_put (put at_back) old.back.ghost_name pixel.ghost_name rest.ghost_name held.0 ps.back) $
        move ! (1 ∷ 2 ∷ 0 ∷ []) $ fjoin3 ! $
        use1 𝓛 (‵ (FinalPixels T old (held.1 ++ held.0 ∷ [])))
        (of_parts 𝓛 T old (held.1 ++ held.0 ∷ []) (parts_of ps.front ps.rows (ps.back ++ held.0 ∷ []))
        (record {
          joined = rw are.joined (simp append_assoc);
          front = are.front;
          rows = are.rows;
          back = rw (length-append ps.back (held.0 ∷ []))
              (omega (arith, are.back, ap length is, length-append rest.now (pixel.now ∷ [])));
        })) $ done !)))

module _ {X : Type 0} (walk : PixelsMut X) where
  -- One pixel fewer remains at this end.
  pub fewer : (s : Side) (pixel : X) (rest : List X) → (near s walk).now ≡ put s pixel rest → Countable s rest
      (rows_left walk.rows) (far s walk).now
  fewer at_front pixel rest is = record {
    full = walk.countable.full;
    bound = omega
        (arith, walk.countable.bound, ap length is);
  }
  fewer at_back pixel rest is =
      record {
        full = walk.countable.full;
        bound = omega
            (arith, walk.countable.bound, ap length is, length-append rest (pixel ∷ []));
      }

  -- This pixel is the first of all, or the last.
  pub steps : (s : Side) (pixel : MutBor X) (rest : MutBor (List X)) → (near s walk).now ≡ put s pixel.now rest.now →
      (countable : Countable s rest.now (rows_left walk.rows) (far s walk).now) → Steps s walk pixel
      (walk_by s rest walk.rows (far s walk) countable)
  steps at_front pixel rest is countable = ap (λ xs. xs ++ (row_major (rows_left walk.rows) ++ walk.back.now)) is
  steps at_back pixel rest is countable = rw is (simp append_assoc)
