-- A list of which a part is replaced.
use Rattle.std.proofs.Common.{ℕ, zero, suc, ◌≡◌, ◌+◌, ◌-◌, ◌<◌, ◌≤◌, List, [], ◌∷◌, ◌++◌, length, take, drop, replicate}
use Rattle.std.proofs.Common.{Some, slice_get, refl, ap, ◌∙◌, arith, length-take-le}
use Rattle.v_frame_raster.proofs.tables.Lists.{slice_get-take, slice_get-drop}
use borrow.Rule.Slice.PartMut.{put_mid, mid_len}

pub slice_get-replicate : {X : Type 0} (n : ℕ) (p : X) (x : ℕ) → x < n → slice_get (replicate n p) x ≡ Some p
slice_get-replicate zero p x h = absurd (omega arith)
slice_get-replicate (suc n) p zero h = refl
slice_get-replicate (suc n) p (suc x) h = slice_get-replicate n p x (omega arith)

module _ {X : Type 0} where
  pub slice_get-front : (xs ys : List X) (i : ℕ) → i < length xs → slice_get (xs ++ ys) i ≡ slice_get xs i
  slice_get-front [] ys i h = absurd (omega arith)
  slice_get-front (x ∷ xs) ys zero h = refl
  slice_get-front (x ∷ xs) ys (suc i) h = slice_get-front xs ys i (omega arith)

  pub slice_get-back : (xs ys : List X) (i : ℕ) → slice_get (xs ++ ys) (length xs + i) ≡ slice_get ys i
  slice_get-back [] ys i = let e : 0 + i ≡ i = omega arith in rw e refl
  slice_get-back (x ∷ xs) ys i =
      let e : suc (length xs) + i ≡ suc (length xs + i) = omega arith in rw e (slice_get-back xs ys i)

  -- The list with the items from a up to e replaced by as many items ys.
  module _ (xs ys : List X) (a e : ℕ) (order : a ≤ e) (fits : e ≤ length xs)
      (as_many : length ys ≡ length (take (e - a) (drop a xs))) where
    long : length ys ≡ e - a
    long = as_many ∙ mid_len a e xs fits

    front_long : length (take a xs) ≡ a
    front_long = length-take-le a xs (omega arith)

    pub part_before : (i : ℕ) → i < a → slice_get (put_mid a (e - a) xs ys) i ≡ slice_get xs i
    part_before i h = slice_get-front (take a xs) _ i (omega (arith, front_long)) ∙ slice_get-take a xs i h

    pub part_inside : (i : ℕ) → a ≤ i → i < e → slice_get (put_mid a (e - a) xs ys) i ≡ slice_get ys (i - a)
    part_inside i from below =
        let there : i ≡ length (take a xs) + (i - a) = omega (arith, front_long) in
        ap (slice_get (put_mid a (e - a) xs ys)) there ∙ slice_get-back (take a xs) _ (i - a)
        ∙ slice_get-front ys _ (i - a) (omega (arith, long))

    pub part_filled : (p : X) → ys ≡ replicate (length (take (e - a) (drop a xs))) p
        → (i : ℕ) → a ≤ i → i < e → slice_get (put_mid a (e - a) xs ys) i ≡ Some p
    part_filled p is i from below =
        part_inside i from below ∙ ap (λ s. slice_get s (i - a)) is
        ∙ slice_get-replicate _ p (i - a) (omega (arith, long, as_many))

    pub part_behind : (i : ℕ) → e ≤ i → slice_get (put_mid a (e - a) xs ys) i ≡ slice_get xs i
    part_behind i h =
        let j = i - e in
        let there : i ≡ length (take a xs) + (length ys + j) = omega (arith, front_long, long) in
        let back : a + (e - a + j) ≡ i = omega arith in
        ap (slice_get (put_mid a (e - a) xs ys)) there ∙ slice_get-back (take a xs) _ (length ys + j)
        ∙ slice_get-back ys _ j
        ∙ slice_get-drop (e - a) (drop a xs) j ∙ slice_get-drop a xs (e - a + j) ∙ ap (slice_get xs) back
