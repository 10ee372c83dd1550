-- Loops that write the items of a list one after the other. Each item is computed from the old one, or is a copy of
-- another item.
use Rattle.std.proofs.Common.{ℕ, zero, suc, ◌≡◌, ◌≢◌, ◌+◌, ◌<◌, ◌≤◌, List, [], ◌∷◌, length, Some, slice_get, refl}
use Rattle.std.proofs.Common.{sym, ◌∙◌, ap, subst, arith}
use Rattle.std.proofs.Math.ListN.{set, length-set}
use Rattle.std.specs.List.{refill}
use Rattle.std.proofs.lemmas.Option.{same_Some, slice_get_within}
use Rattle.v_frame_raster.proofs.tables.Lists.{refill_same, slice_get-set_same, others_are_read}
use borrow.Author.Count.{below_more}

-- Each item below index `i` became an item that `made` relates to the old one. The other items are unchanged.
pub record ChangedBelow {X : Type 0} (made : ℕ → X → X → Type 0) (old now : List X) (i : ℕ) : Type 0 where
  pub count : length now ≡ length old
  pub changed : (k : ℕ) → k < i → (p : X) → slice_get old k ≡ Some p → (q : X) × made k p q × (slice_get now k ≡ Some q)
  pub others : (k : ℕ) → i ≤ k → slice_get now k ≡ slice_get old k

-- `gives p q r` holds for the item `q` of another list at index `k`.
abbrev pub GivenWith : {X : Type 0} → (X → X → X → Type 0) → List X → ℕ → X → X → Type 0
GivenWith {X} gives other k p r = (q : X) → slice_get other k ≡ Some q → gives p q r

-- A list has only one item at each index.
pub same_item : {X : Type 0} (xs : List X) (i : ℕ) (x y : X) → slice_get xs i ≡ Some x → slice_get xs i ≡ Some y → x ≡ y
same_item xs i x y is becomes = same_Some x y (sym is ∙ becomes)

module _ {X : Type 0} where
  -- A list that has its full length already needs no filling, so a property of the filled list holds for it too.
  pub with_length_kept : (P : List X → Type 0) (xs ws : List X) → length ws ≡ length xs → P (refill (length xs) xs ws)
      → P ws
  with_length_kept P xs ws same h = subst P (refill_same xs ws same) h

  -- Setting an item to its own value changes nothing.
  pub set_same : (xs : List X) (i : ℕ) (p : X) → slice_get xs i ≡ Some p → set xs i p ≡ xs
  set_same [] i p h = refl
  set_same (x ∷ xs) zero p h = ap (λ q. q ∷ xs) (sym (same_Some x p h))
  set_same (x ∷ xs) (suc i) p h = ap (λ ys. x ∷ ys) (set_same xs i p h)

module _ {X : Type 0} (made : ℕ → X → X → Type 0) where
  pub none_changed : (xs : List X) → ChangedBelow made xs xs 0
  none_changed xs = record { count = refl; changed = λ k h. absurd (omega arith); others = λ k h. refl }

  -- The loop step: one more item is changed, and the other items are unchanged.
  pub one_more_changed : (old now after : List X) (i : ℕ) → ChangedBelow made old now i → length after ≡ length now
      → ((k : ℕ) → k ≢ i → slice_get after k ≡ slice_get now k)
      → ((p : X) → slice_get now i ≡ Some p → (q : X) × made i p q × (slice_get after i ≡ Some q)) → ChangedBelow made
      old after (i + 1)
  one_more_changed old now after i so_far same others one = record {
    count = same ∙ so_far.count;
    changed =
        below_more (λ k. (p : X) → slice_get old k ≡ Some p → (q : X) × made k p q × (slice_get after k ≡ Some q)) i
        (λ k h p is. let q = so_far.changed k h p is in (q.0, q.1, others k (omega arith) ∙ q.2))
        (λ p is. one p (so_far.others i (omega arith) ∙ is));
    others = λ k h. others k (omega arith) ∙ so_far.others k (omega arith);
  }

  pub one_more_set : (old now : List X) (i : ℕ) (p q : X) → ChangedBelow made old now i → slice_get now i ≡ Some p →
      made i p q
      → ChangedBelow made old (set now i q) (i + 1)
  one_more_set old now i p q so_far is becomes =
      one_more_changed old now (set now i q) i so_far (length-set now i q) (λ k h. others_are_read now i k q h) (λ r h.
      (q, subst (λ s. made i s q) (same_item now i p r is h) becomes, slice_get-set_same now i p q q is refl))

  -- After the last step, all items are changed.
  pub all_changed : (old now : List X) (i : ℕ) → ChangedBelow made old now i → length old ≤ i → (k : ℕ) (p : X) →
      slice_get old k ≡ Some p
      → (q : X) × made k p q × (slice_get now k ≡ Some q)
  all_changed old now i so_far end k p h = let within = slice_get_within old k p h in so_far.changed k (omega arith) p h

-- Each item from index `start` on, below index `i`, became a copy of the item at index `source`. The other items are
-- unchanged.
pub record CopiedBelow {X : Type 0} (start source : ℕ) (old now : List X) (i : ℕ) : Type 0 where
  pub copied : (k : ℕ) → k < i → start ≤ k → slice_get now k ≡ slice_get old source
  pub above : (k : ℕ) → k < start → slice_get now k ≡ slice_get old k
  pub below : (k : ℕ) → i ≤ k → slice_get now k ≡ slice_get old k

module _ {X : Type 0} (start source : ℕ) (old now : List X) (i : ℕ) (p q : X)
    (so_far : CopiedBelow start source old now i) where
  pub one_more_copied : start ≤ i → slice_get now i ≡ Some q → slice_get now source ≡ Some p → slice_get now source ≡
      slice_get old source
      → CopiedBelow start source old (set now i p) (i + 1)
  one_more_copied up is read same = record {
    copied =
        below_more (λ k. start ≤ k → slice_get (set now i p) k ≡ slice_get old source) i
        (λ k h from. others_are_read now i k p (λ e. absurd (omega arith)) ∙ so_far.copied k h from)
        (λ from. slice_get-set_same now i q p p is refl ∙ sym read ∙ same);
    above = λ k h. others_are_read now i k p (λ e. absurd (omega arith)) ∙ so_far.above k h;
    below = λ k h. others_are_read now i k p (λ e. absurd (omega arith)) ∙ so_far.below k (omega arith);
  }
