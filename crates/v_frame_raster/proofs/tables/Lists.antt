-- Facts about lists, and about lists of lists such as tables.
use Rattle.std.proofs.Common.{ℕ, zero, suc, ◌≡◌, ◌≢◌, ◌+◌, ◌<◌, ◌≤◌, List, [], ◌∷◌, ◌++◌, length, take, drop, map, Some}
use Rattle.std.proofs.Common.{slice_get, slice_set, refl, sym, ◌∙◌, ap, arith, take-append-drop, length-set}
use Rattle.std.proofs.Math.Seq.{set-append_seam, get_or-set_same, take-set-le, drop-set-add, take-set-lt, drop-set-lt}
use Rattle.std.proofs.lemmas.List.{length-map, take_at}
use Rattle.std.proofs.lemmas.Option.{slice_get-map as get-map, slice_get_read, slice_get_within}
use Rattle.std.specs.List.{refill}

module _ {X : Type 0} where
  -- Lists that agree at each index are equal, for example tables that agree row by row.
  pub same_by_slice_get : (xs ys : List X) → length xs ≡ length ys
      → ((k : ℕ) → k < length xs → slice_get xs k ≡ slice_get ys k) → xs ≡ ys
  same_by_slice_get [] [] same each = refl
  same_by_slice_get (x ∷ xs) (y ∷ ys) same each =
      let first : Some x ≡ Some y = each 0 (omega arith) in
      let others = same_by_slice_get xs ys (omega arith) (λ k h. each (suc k) (omega arith)) in
      cc
  same_by_slice_get xs ys same each = absurd (omega arith)

  pub slice_get-take : (n : ℕ) (xs : List X) (i : ℕ) → i < n → slice_get (take n xs) i ≡ slice_get xs i
  slice_get-take zero xs i h = absurd (omega arith)
  slice_get-take (suc n) [] i h = refl
  slice_get-take (suc n) (x ∷ xs) zero h = refl
  slice_get-take (suc n) (x ∷ xs) (suc i) h = slice_get-take n xs i (omega arith)

  pub slice_get-drop : (n : ℕ) (xs : List X) (i : ℕ) → slice_get (drop n xs) i ≡ slice_get xs (n + i)
  slice_get-drop zero xs i = let e : 0 + i ≡ i = omega arith in rw e refl
  slice_get-drop (suc n) [] i = refl
  slice_get-drop (suc n) (x ∷ xs) i =
      let e : suc n + i ≡ suc (n + i) = omega arith in
      slice_get-drop n xs i ∙ ap (slice_get (x ∷ xs)) (sym e)

  -- The element after the front of a list.
  pub slice_get-at : (a : List X) (b : X) (c : List X) → slice_get (a ++ b ∷ c) (length a) ≡ Some b
  slice_get-at [] b c = refl
  slice_get-at (x ∷ a) b c = slice_get-at a b c

  pub slice_set-at : (a : List X) (b : X) (c : List X) (d : X) → slice_set (a ++ b ∷ c) (length a) d ≡ a ++ d ∷ c
  slice_set-at = set-append_seam

  -- Reading an element that was set returns the new element, and all others are unchanged.
  pub set_is_read : (xs : List X) (i : ℕ) (x : X) → i < length xs → slice_get (slice_set xs i x) i ≡ Some x
  set_is_read xs i x h =
      slice_get_read (slice_set xs i x) _ i x refl (omega (arith, h, length-set xs i x))
      (sym (get_or-set_same xs i x x h))

  pub slice_get-set_same : (xs : List X) (i : ℕ) (p q r : X) → slice_get xs i ≡ Some p → q ≡ r
      → slice_get (slice_set xs i q) i ≡ Some r
  slice_get-set_same xs i p q r is same = set_is_read xs i q (slice_get_within xs i p is) ∙ ap Some same

  pub others_are_read : (xs : List X) (i k : ℕ) (x : X) → k ≢ i → slice_get (slice_set xs i x) k ≡ slice_get xs k
  others_are_read [] i k x h = refl
  others_are_read (y ∷ xs) zero zero x h = absurd (h refl)
  others_are_read (y ∷ xs) zero (suc k) x h = refl
  others_are_read (y ∷ xs) (suc i) zero x h = refl
  others_are_read (y ∷ xs) (suc i) (suc k) x h = others_are_read xs i k x (λ e. h (ap suc e))

  -- The first elements of one list followed by the rest of another, with one more element of the first.
  pub one_more : (new old : List X) (i : ℕ) (x : X) → slice_get new i ≡ Some x → i < length old
      → slice_set (take i new ++ drop i old) i x ≡ take (i + 1) new ++ drop (i + 1) old
  one_more [] old i x e h = cc
  one_more (n ∷ new) [] i x e h = absurd (omega arith)
  one_more (n ∷ new) (o ∷ old) zero x e h = cc
  one_more (n ∷ new) (o ∷ old) (suc i) x e h =
      let k : suc i + 1 ≡ suc (i + 1) = omega arith in
      rw k (ap (λ r. n ∷ r) (one_more new old i x e (omega arith)))

  -- A list that is lent with its own length comes back with its final value.
  pub refill_same : (xs ws : List X) → length ws ≡ length xs → refill (length xs) xs ws ≡ ws
  refill_same xs ws h = take_at ws (drop (length ws) xs) (length xs) h

  -- Setting an element inside a part of a list sets it in this part.
  pub set_in_part : (xs : List X) (start n i : ℕ) (x : X) → i < n → start + n ≤ length xs
      → slice_set xs (start + i) x ≡ take start xs ++ (slice_set (take n (drop start xs)) i x ++ drop n (drop start xs))
  set_in_part xs start n i x h inside =
      sym (take-append-drop start (slice_set xs (start + i) x)) ∙ rw (
        take-set-le start xs (start + i) x (omega arith),
        drop-set-add start xs i x,
        ← take-set-lt n (drop start xs) i x h,
        ← drop-set-lt n (drop start xs) i x h,
      ) (ap (λ ys. take start xs ++ ys) (sym (take-append-drop n (slice_set (drop start xs) i x))))

pub slice_get-map : {X Y : Type 0} (f : X → Y) (xs : List X) (i : ℕ) (x : X) → slice_get xs i ≡ Some x
    → slice_get (map f xs) i ≡ Some (f x)
slice_get-map f xs i x e = rw (get-map, e) refl

-- Lists of lists with equal lengths have equal numbers of lists.
pub same_count : {X : Type 0} (xs ys : List (List X)) → map length xs ≡ map length ys → length xs ≡ length ys
same_count xs ys e = sym (length-map xs length) ∙ ap length e ∙ length-map ys length
