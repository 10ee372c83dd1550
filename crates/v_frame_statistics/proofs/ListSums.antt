-- Sums over the items of a list, or over the pairs of two lists: the loop steps for one more item or one more block.
use Rattle.std.proofs.Common.{ℕ, zero, suc, ◌≡◌, ◌+◌, ◌-◌, ◌*◌, ◌<◌, List, [], ◌∷◌, length, take, drop, get_or}
use Rattle.std.proofs.Common.{refl, arith, mul-suc, ◌∙◌, ap, ◌≤◌, Bool, true, false, cond}
use mir.Val.{bool_byte}
use Rattle.std.specs.Prelude.{sum_by, zip}
use Rattle.std.proofs.Math.Seq.{take-add}
use Rattle.std.proofs.Common.{Some, slice_get}
use Rattle.std.proofs.lemmas.List.{take_rest, drop_more, drop_all}
use Rattle.std.proofs.lemmas.Option.{slice_get_within, get_or_from_slice_get}
use Rattle.v_frame_raster.specs.Table.{Table, row_major}
use Rattle.std.proofs.lemmas.List.Sums.{sum_by-append, sum_by_more, sum_by-take-drop}
use Rattle.std.proofs.lemmas.Slice.Zip.{get_or-zip, length-zip}

-- The number to which a `bool` is cast.
pub byte_of_bool : (b : Bool) → (bool_byte b ≡ cond b 1 0) × (bool_byte b ≤ 1)
byte_of_bool true = (refl, omega arith)
byte_of_bool false = (refl, omega arith)

module _ {X : Type 0} (f : X → ℕ) where
  -- One more block of `n` items.
  pub sum_by-piece : (xs : List X) (n k : ℕ)
      → sum_by f (take (n * (k + 1)) xs) ≡ sum_by f (take (n * k) xs) + sum_by f (take n (drop (n * k) xs))
  sum_by-piece xs n k =
      let next : n * (k + 1) ≡ n * k + n = omega (arith, mul-suc n k) in
      rw (next, take-add (n * k) n xs) (sum_by-append f (take (n * k) xs) (take n (drop (n * k) xs)))

  -- The remaining items.
  pub sum_by-rest : (xs : List X) (at : ℕ)
      → sum_by f (take at xs) + sum_by f (take (length xs - at) (drop at xs)) ≡ sum_by f xs
  sum_by-rest xs at = rw (take_rest xs at) (sum_by-take-drop f xs at)

  -- Four more items.
  pub sum_by-four_more : (xs : List X) (k : ℕ) (d : X) → 4 * k + 3 < length xs
      → sum_by f (take (4 * (k + 1)) xs) ≡ sum_by f (take (4 * k) xs) + f (get_or xs (4 * k) d)
      + f (get_or xs (4 * k + 1) d) + f (get_or xs (4 * k + 2) d) + f (get_or xs (4 * k + 3) d)
  sum_by-four_more xs k d h =
      let two : 4 * k + 1 + 1 ≡ 4 * k + 2 = omega arith in
      let three : 4 * k + 2 + 1 ≡ 4 * k + 3 = omega arith in
      let four : 4 * k + 3 + 1 ≡ 4 * (k + 1) = omega arith in
      omega (
        arith,
        sum_by_more f xs (4 * k) d (omega arith),
        rw two at (sum_by_more f xs (4 * k + 1) d (omega arith)),
        rw three at (sum_by_more f xs (4 * k + 2) d (omega arith)),
        rw four at (sum_by_more f xs (4 * k + 3) d (omega arith)),
      )

module _ {X Y : Type 0} where
  -- The pairs of the first items of two lists are the first pairs, and the pairs of the remaining items are the
  -- remaining pairs.
  pub zip-take : (n : ℕ) (xs : List X) (ys : List Y) → zip (take n xs) (take n ys) ≡ take n (zip xs ys)
  zip-take zero xs ys = refl
  zip-take (suc n) [] ys = refl
  zip-take (suc n) (x ∷ xs) [] = refl
  zip-take (suc n) (x ∷ xs) (y ∷ ys) = ap (λ pairs. (x, y) ∷ pairs) (zip-take n xs ys)

  zip-nil : (xs : List X) → let none : List Y = [] in zip xs none ≡ []
  zip-nil [] = refl
  zip-nil (x ∷ xs) = refl

  pub zip-drop : (n : ℕ) (xs : List X) (ys : List Y) → zip (drop n xs) (drop n ys) ≡ drop n (zip xs ys)
  zip-drop zero xs ys = refl
  zip-drop (suc n) [] ys = refl
  zip-drop (suc n) (x ∷ xs) [] = zip-nil (drop n xs)
  zip-drop (suc n) (x ∷ xs) (y ∷ ys) = zip-drop n xs ys

  -- The pairs of two blocks at the same index are a block of the pairs.
  pub zip-piece : (at n : ℕ) (xs : List X) (ys : List Y)
      → zip (take n (drop at xs)) (take n (drop at ys)) ≡ take n (drop at (zip xs ys))
  zip-piece at n xs ys = zip-take n (drop at xs) (drop at ys) ∙ ap (take n) (zip-drop at xs ys)

  pub zip-length : (xs : List X) (ys : List Y) → length ys ≡ length xs → length (zip xs ys) ≡ length xs
  zip-length xs ys same = omega (arith, same, length-zip xs ys)

  -- One more pair.
  pub sum_by-pair_more : (f : X × Y → ℕ) (xs : List X) (ys : List Y) (i : ℕ) (p : X) (q : Y) → length ys ≡ length xs
      → i < length xs → p ≡ get_or xs i p → q ≡ get_or ys i q
      → sum_by f (take (i + 1) (zip xs ys)) ≡ sum_by f (take i (zip xs ys)) + f (p, q)
  sum_by-pair_more f xs ys i p q same h first second =
      let long : i < length (zip xs ys) = omega (arith, zip-length xs ys same) in
      let read = get_or-zip xs ys i (p, q) h (omega (arith, same)) in
      let is : get_or (zip xs ys) i (p, q) ≡ (p, q) = cc in
      sum_by_more f (zip xs ys) i (p, q) long ∙ ap (λ pair. sum_by f (take i (zip xs ys)) + f pair) is

module _ {T : Type 0} (f : T → ℕ) where
  -- The pixels of one more row.
  pub sum_by-row : (table : Table T) (y : ℕ) (row : List T) → slice_get table y ≡ Some row
      → sum_by f (row_major (drop y table)) ≡ sum_by f row + sum_by f (row_major (drop (y + 1) table))
  sum_by-row table y row is =
      rw (drop_more table y row (slice_get_within table y row is), get_or_from_slice_get table y row row is)
      (sum_by-append f row (row_major (drop (y + 1) table)))

  -- After the last row there are no more pixels.
  pub sum_by-no_rows : (table : Table T) (y : ℕ) → length table ≤ y → sum_by f (row_major (drop y table)) ≡ 0
  sum_by-no_rows table y h = rw (drop_all y table h)

  -- The pixels of four more rows.
  pub sum_by-four_rows : (table : Table T) (y : ℕ) (a b c d : List T) → slice_get table y ≡ Some a
      → slice_get table (y + 1) ≡ Some b → slice_get table (y + 2) ≡ Some c → slice_get table (y + 3) ≡ Some d
      → sum_by f (row_major (drop y table))
      ≡ sum_by f a + sum_by f b + (sum_by f c + sum_by f d) + sum_by f (row_major (drop (y + 4) table))
  sum_by-four_rows table y a b c d first second third fourth =
      let two : y + 1 + 1 ≡ y + 2 = omega arith in
      let three : y + 2 + 1 ≡ y + 3 = omega arith in
      let four : y + 3 + 1 ≡ y + 4 = omega arith in
      omega (
        arith,
        sum_by-row table y a first,
        rw two at (sum_by-row table (y + 1) b second),
        rw three at (sum_by-row table (y + 2) c third),
        rw four at (sum_by-row table (y + 3) d fourth),
      )
