-- The effect of calls that write on the final values of an iterator: a call with or without an item, one more call of
-- a list, and the drop of the iterator. Assumes `Logic`.
use Rattle.v_frame_buffer.proofs.Steps.{via, mono_r, apply∗, ℕ, ◌+◌, ◌<◌, take, arith, ◌≡◌, List, [], ◌∷◌, length, refl}
use Rattle.v_frame_buffer.proofs.Steps.{sym, ap, ◌∙◌, Option, Some, None, MutBor, SProp, all, emp, ent, sep, wand}
use Rattle.v_frame_buffer.proofs.Steps.{RattleType, Ura, ‵, ◌$◌, ◌∵◌, !, qed, assume, done, each, join, move, rewrite}
use Rattle.v_frame_buffer.proofs.Steps.{use1, use2, Logic, sem}
use Rattle.std.proofs.lemmas.List.{take_all}
use Rattle.std.specs.Prelude.{map}
use base.Fml.{fwand, fsep}
use Rattle.v_frame.specs.DrawnItems.{put_back, put_back_in_turn}
use Rattle.v_frame.specs.Walk.{item_from, remaining_after, remaining_in_turn, walk_leaves}
use Rattle.v_frame.specs.declared.replay.draw.Side.{Side, TheVariants.Front, TheVariants.Back}
use Rattle.v_frame.proofs.SharedItems.{nth_of, take-nth}
use Rattle.v_frame.proofs.DrawnItems.{put_back-append, put_back_all, length-put_back}
use Rattle.v_frame.proofs.ItemKinds.{Draw, Ends, Entry, Kind, Lends, Puts, FinalItems, Walk, left, made, of_pixels}
use Rattle.v_frame.proofs.ItemKinds.{side_of}

module _ {M : Type 1} {𝓤 : Ura M} (𝓛 : Logic 𝓤) (T : RattleType) where
  abbrev Final : (k : Kind) → Walk T k → List (Entry T k) → SProp 𝓤
  Final k walk xs = sem 𝓛 (FinalItems T k walk xs)

  -- `before` computes the earlier final values from the later ones.
  abbrev Tells : (k : Kind) → (List (Entry T k) → List (Entry T k)) → (old new : Walk T k) → SProp 𝓤
  Tells k before old new =
      all 𝓤 (λ (xs : List (Entry T k)). all 𝓤 (λ (_ : length xs ≡ length (left T k new)). wand 𝓤 (Final k new xs)
      (Final k old (before xs))))

  abbrev pub Put : (k : Kind) → Side → (Entry T k → Entry T k) → (old new : Walk T k) → SProp 𝓤
  Put k side change old = Tells k (put_back side change (item_from side (left T k old))) old

  -- A call that yields no item.
  pub none_taken : (side : Side) (k : Kind) (change : Entry T k → Entry T k) (old new : Walk T k) → item_from side
      (left T k old) ≡ None →
      ent 𝓤 (sem 𝓛 (Lends T k side old None new)) (Put k side change old new)
  none_taken Front of_pixels change old new none = rw none (record { apply = λ a says xs same. says xs })
  none_taken Back of_pixels change old new none = rw none (record { apply = λ a says xs same. says xs })
  none_taken side k change old new none = rw none (record { apply = λ a says xs same. says xs })

  -- A call that yields an item states this for all final values. If it takes the last row, their number must be the
  -- number of remaining rows.
  takes : (side : Side) (k : Kind) (change : Entry T k → Entry T k) (old new : Walk T k) (x : MutBor (Entry T k))
      (xs : List (Entry T k)) →
      length xs ≡ length (left T k new) → ent 𝓤 (sem 𝓛 (Lends T k side old (Some x) new))
      (sem 𝓛 (fwand (fsep (Ends T k x (change x.now)) (FinalItems T k new xs))
      (FinalItems T k old (put_back side change (Some x.now) xs))))
  takes Front of_pixels change old new x xs same = record { apply = λ a says. says (change x.now, xs) }
  takes Back of_pixels change old new x xs same = record { apply = λ a says. says (change x.now, xs) }
  takes Front k change old new x xs same = record { apply = λ a says. says (change x.now, xs) }
  takes Back k change old new x xs same = record { apply = λ a says. says (change x.now, xs) same }

  -- The final value of the item is its changed value.
  pub item_taken : (side : Side) (k : Kind) (change : Entry T k → Entry T k) (old new : Walk T k)
      (x : MutBor (Entry T k)) →
      item_from side (left T k old) ≡ Some x.now →
      ent 𝓤 (sep 𝓤 (sem 𝓛 (Ends T k x (change x.now))) (sem 𝓛 (Lends T k side old (Some x) new)))
      (Put k side change old new)
  item_taken side k change old new x is = let End = Ends T k x (change x.now) in
      qed 𝓛 (‵ End ∷ ‵ (Lends T k side old (Some x) new) ∷ []) ∵ each ! _
      (λ xs. each ! _ (λ same. assume ! (‵ (FinalItems T k new xs)) $
      let held = fsep End (FinalItems T k new xs) in let past = FinalItems T k old
      (put_back side change (Some x.now) xs) in
      move ! (1 ∷ 0 ∷ []) $ join ! $ move ! (1 ∷ []) $ use1 𝓛 (‵ (fwand held past))
      (takes side k change old new x xs same) $ move ! (1 ∷ []) $
      use2 𝓛 (‵ past) (apply∗ 𝓤 (sem 𝓛 held) (sem 𝓛 past)) $
      rewrite ! 0 (λ (it : Option (Entry T k)). ‵ (FinalItems T k old (put_back side change it xs))) (sym is) refl $
      done !))

  module _ (k : Kind) where
    -- The final values are known for the iterator after the call.
    pub tells : (before : List (Entry T k) → List (Entry T k)) (old new : Walk T k) (xs : List (Entry T k)) → length xs
        ≡ length (left T k new) →
        ent 𝓤 (sep 𝓤 (Final k new xs) (Tells k before old new)) (Final k old (before xs))
    tells before old new xs same =
        let New = Final k new xs in let Old = Final k old (before xs) in
        let so : ent 𝓤 (Tells k before old new) (wand 𝓤 New Old) = record { apply = λ a says. says xs same } in
        via 𝓤 (sep 𝓤 New (wand 𝓤 New Old)) (mono_r 𝓤 New so) (apply∗ 𝓤 New Old)

    -- The items that the calls put back.
    abbrev back : Walk T k → List (Draw T k) → List (Entry T k) → List (Entry T k)
    back old = put_back_in_turn (side_of T k) (made T k) (left T k old)

    -- No item is taken yet.
    pub none_drawn : (walk : Walk T k) → ent 𝓤 (emp 𝓤) (sem 𝓛 (Puts T k [] walk walk))
    none_drawn walk = qed 𝓛 [] ∵ each ! _ (λ xs. each ! _ (λ same. assume ! (‵ (FinalItems T k walk xs)) $ done !))

    -- One more call of a list.
    pub nth_drawn : (draws : List (Draw T k)) (i : ℕ) (h : i < length draws) (old walk new : Walk T k) → let draw =
        nth_of draws i h in
        left T k walk ≡ remaining_in_turn (left T k old) (map (side_of T k) (take i draws)) → left T k new ≡
        remaining_after (side_of T k draw) (left T k walk)
        → ent 𝓤 (sep 𝓤 (sem 𝓛 (Puts T k (take i draws) old walk)) (sem 𝓛 (Puts T k (draw ∷ []) walk new)))
        (sem 𝓛 (Puts T k (take (i + 1) draws) old new))
    nth_drawn draws i h old walk new so_far less =
        let draw = nth_of draws i h in
        qed 𝓛 (‵ (Puts T k (take i draws) old walk) ∷ ‵ (Puts T k (draw ∷ []) walk new) ∷ []) ∵
        each ! _ (λ xs. each ! _ (λ same. assume ! (‵ (FinalItems T k new xs)) $ move ! (0 ∷ 2 ∷ []) $ let held = back
        walk (draw ∷ []) xs in
        use2 𝓛 (‵ (FinalItems T k walk held)) (tells (back walk (draw ∷ [])) walk new xs same) $
        use2 𝓛 (‵ (FinalItems T k old (back old (take i draws) held))) (tells (back old (take i draws)) old walk held
        (length-put_back (side_of T k draw) (made T k draw) (left T k walk) xs (same ∙ ap length less))) $
        let is : back old (take i draws) held ≡ back old (take (i + 1) draws) xs = rw (
          take-nth draws i h,
          put_back-append (side_of T k) (made T k) (left T k old) (take i draws) (draw ∷ []) xs,
          ← so_far,
        ) in
        rewrite ! 0 (λ (ys : List (Entry T k)). ‵ (FinalItems T k old ys)) is refl $ done !))

    -- The iterator is dropped after all calls.
    pub each_drawn : (draws : List (Draw T k)) (i : ℕ) → i ≡ length draws → (old new : Walk T k)
        (begun : List (Entry T k)) → left T k old ≡ begun
        → left T k new ≡ remaining_in_turn (left T k old) (map (side_of T k) (take i draws))
        → ent 𝓤 (sep 𝓤 (sem 𝓛 (FinalItems T k new (left T k new))) (sem 𝓛 (Puts T k (take i draws) old new)))
        (sem 𝓛 (FinalItems T k old (walk_leaves (side_of T k) (made T k) begun draws)))
    each_drawn draws i all old new begun is so_far =
        let e : back old (take i draws) (left T k new) ≡ walk_leaves (side_of T k) (made T k) begun draws =
        rw (so_far, take_all i draws (omega (arith, all)), is) (put_back_all (side_of T k) (made T k) begun draws) in
        rw e at (tells (back old (take i draws)) old new (left T k new) refl)
