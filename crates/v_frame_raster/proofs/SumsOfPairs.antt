-- Sums over the pairs of two lists in pieces, and over two tables, one row after another.
use Rattle.std.proofs.Common.{ℕ, zero, suc, ◌≡◌, ◌+◌, ◌-◌, ◌*◌, ◌^◌, ◌<◌, ◌≤◌, List, [], ◌∷◌, ◌++◌, length, take, drop}
use Rattle.std.proofs.Common.{get_or, mul-suc, refl, arith, Fits, Some, slice_get}
use mir.Syntax.{Width}
use mir.Val.{bits}
use Rattle.std.specs.Prelude.{sum_by, zip}
use Rattle.std.specs.Int.{abs_diff}
use Rattle.std.proofs.Math.Nat.{mul-le-mul}
use Rattle.v_frame_raster.specs.PixelRows.{squared_error}
use Rattle.std.specs.Simd.Lanes.{Each1, zip2, sum_l}
use Rattle.std.proofs.lemmas.Simd.{Each1-from_get_or}
use Rattle.std.proofs.lemmas.List.{drop-drop, drop_more, take_rest}
use Rattle.std.proofs.lemmas.Option.{slice_get_within, get_or_from_slice_get}
use Rattle.v_frame_raster.specs.Laws.{AddsUp}
use Rattle.v_frame_raster.specs.Table.{Table, row_major}
use Rattle.std.proofs.lemmas.List.Sums.{sum_by-cons}

no_pairs : {X : Type 0} (Y : Type 0) (xs : List X) → let none : List Y = [] in zip xs none ≡ []
no_pairs Y [] = refl
no_pairs Y (x ∷ xs) = refl

module _ {X Y : Type 0} (of : X × Y → ℕ) where
  -- A sum over pairs is the sum over the first n pairs plus the sum over the rest.
  pub sum_of_pairs-split : (n : ℕ) (xs : List X) (ys : List Y)
      → sum_by of (zip xs ys) ≡ sum_by of (zip (take n xs) (take n ys)) + sum_by of (zip (drop n xs) (drop n ys))
  sum_of_pairs-split zero xs ys = omega arith
  sum_of_pairs-split (suc n) [] ys = refl
  sum_of_pairs-split (suc n) (x ∷ xs) [] = rw (no_pairs Y (drop n xs))
  sum_of_pairs-split (suc n) (x ∷ xs) (y ∷ ys) =
      omega (
        arith,
        sum_of_pairs-split n xs ys,
        sum_by-cons of (x, y) (zip xs ys),
        sum_by-cons of (x, y) (zip (take n xs) (take n ys)),
      )

  -- The pairs up to an index are summed. Together with the remaining pairs, this is the whole sum. Each pair added
  -- less than 2 ^ 64.
  abbrev pub SumsUpTo : ℕ → List X → List Y → ℕ → Type 0
  SumsUpTo at xs ys so_far =
      (so_far + sum_by of (zip (drop at xs) (drop at ys)) ≡ sum_by of (zip xs ys)) × (so_far ≤ 2 ^ 64 * at)

  -- One step of a loop over two lists in pieces of n, from piece k on.
  pub sums_up_to-piece_more : (n k so_far piece : ℕ) (xs : List X) (ys : List Y) → 0 < n → piece < 2 ^ 64
      → piece ≡ sum_by of (zip (take n (take (length xs - n * k) (drop (n * k) xs)))
      (take n (take (length ys - n * k) (drop (n * k) ys))))
      → SumsUpTo (n * k) xs ys so_far → SumsUpTo (n * (k + 1)) xs ys (so_far + piece)
  sums_up_to-piece_more n k so_far piece xs ys some small is invariant =
      let at = n * k in
      let next : n * (k + 1) ≡ at + n = omega (arith, mul-suc n k) in
      let split = rw (drop-drop n at xs, drop-drop n at ys) at (sum_of_pairs-split n (drop at xs) (drop at ys)) in
      let here = rw (take_rest xs at, take_rest ys at) at is in
      rw next (omega (arith, split, here, invariant.0), omega (arith, some, small, invariant.1))

  -- The sum over the pairs of joined lists, of which the first two have equal lengths.
  sum_of_pairs-append : (xs xs1 : List X) (ys ys1 : List Y) → length xs ≡ length ys
      → sum_by of (zip (xs ++ xs1) (ys ++ ys1)) ≡ sum_by of (zip xs ys) + sum_by of (zip xs1 ys1)
  sum_of_pairs-append [] xs1 [] ys1 same = omega arith
  sum_of_pairs-append (x ∷ xs) xs1 (y ∷ ys) ys1 same =
      let rest = sum_of_pairs-append xs xs1 ys ys1 (omega (arith, same)) in
      omega (arith, rest, sum_by-cons of (x, y) (zip (xs ++ xs1) (ys ++ ys1)), sum_by-cons of (x, y) (zip xs ys))
  sum_of_pairs-append xs xs1 ys ys1 same = absurd (omega (arith, same))

pub row_and_rest : {T : Type 0} (table : Table T) (y : ℕ) (row : List T) → slice_get table y ≡ Some row
    → row_major (drop y table) ≡ row ++ row_major (drop (y + 1) table)
row_and_rest table y row is =
    rw (drop_more table y row (slice_get_within table y row is), get_or_from_slice_get table y row row is)

module _ {T : Type 0} (of : T × T → ℕ) where
  -- The sum over two tables is the total of the sums over their rows.
  pub sum_of_pairs-adds_up : AddsUp (λ xs ys. sum_by of (zip xs ys))
  sum_of_pairs-adds_up = record {
    joined = λ a b a1 b1 same. sum_of_pairs-append of a a1 b b1 same;
    by_rows = λ table other y row row1 is is1 same.
        rw (row_and_rest table y row is, row_and_rest other y row1 is1) (sum_of_pairs-append of row _ row1 _ same);
  }

-- The sum of lanes that are computed from two vectors.
pub sum_of_lanes : {X Y : Type 0} (f : X → Y → ℕ) (xs : List X) (ys : List Y)
    → sum_l (zip2 f xs ys) ≡ sum_by (λ p. f p.0 p.1) (zip xs ys)
sum_of_lanes f (x ∷ xs) (y ∷ ys) = omega (arith, sum_of_lanes f xs ys, sum_by-cons (λ p. f p.0 p.1) (x, y) (zip xs ys))
sum_of_lanes f xs ys = refl

-- The sum over pairs of values below a size, if each pair adds at most `most`.
pub sum_of_pairs-at_most : (f : ℕ → ℕ → ℕ) (size most : ℕ) → ((x y : ℕ) → x < size → y < size → f x y ≤ most)
    → (xs ys : List ℕ)
    → Each1 (λ x. x < size) xs → Each1 (λ y. y < size) ys → sum_by (λ p. f p.0 p.1) (zip xs ys) ≤ most * length xs
sum_of_pairs-at_most f size most each (x ∷ xs) (y ∷ ys) small small1 =
    let rest = sum_of_pairs-at_most f size most each xs ys small.1 small1.1 in
    let long : most * length (x ∷ xs) ≡ most + most * length xs = omega arith in
    omega (arith, long, rest, each x y small.0 small1.0, sum_by-cons (λ p. f p.0 p.1) (x, y) (zip xs ys))
sum_of_pairs-at_most f size most each xs ys small small1 = omega arith

-- Sums over pairs of values of up to 16 bits.
module _ (w : Width) (narrow : 2 ^ bits w ≤ 65536) (xs ys : List ℕ) (fits : (k : ℕ) → Fits w (get_or xs k 0))
    (fits1 : (k : ℕ) → Fits w (get_or ys k 0)) where
  at_most : (f : ℕ → ℕ → ℕ) (most : ℕ) → ((x y : ℕ) → x < 2 ^ bits w → y < 2 ^ bits w → f x y ≤ most)
      → sum_by (λ p. f p.0 p.1) (zip xs ys) ≤ most * length xs
  at_most f most each =
      let below =
      λ (zs : List ℕ) (small : (k : ℕ) → Fits w (get_or zs k 0)).
      Each1-from_get_or (λ z. z < 2 ^ bits w) zs 0 (λ k h. (small k).fits) in
      sum_of_pairs-at_most f (2 ^ bits w) most each xs ys (below xs fits) (below ys fits1)

  pub differences-at_most : sum_by (λ p. abs_diff p.0 p.1) (zip xs ys) ≤ 65536 * length xs
  differences-at_most = at_most abs_diff 65536 (λ x y h h1. omega (arith, narrow))

  pub squares-at_most : sum_by (λ p. squared_error p.0 p.1) (zip xs ys) ≤ 4294967296 * length xs
  squares-at_most =
      at_most squared_error 4294967296 (λ x y h h1.
      let gap : abs_diff x y ≤ 65536 = omega (arith, narrow) in mul-le-mul gap gap)
