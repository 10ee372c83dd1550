-- Lanes of differences, and their sums.
use Rattle.std.proofs.Common.{ℕ, ◌≡◌, ◌+◌, ◌-◌, ◌*◌, ◌^◌, ◌%◌, ◌<◌, ◌≤◌, List, ◌∷◌, cond, ltb, length, take, get_or}
use Rattle.std.proofs.Common.{map, refl, ◌∙◌, arith, zero-add, Fits}
use Rattle.v_frame_raster.specs.PixelRows.{squared_error}
use Rattle.v_frame_raster.proofs.SumsOfPairs.{sum_of_lanes, sum_of_pairs-at_most}
use mir.Syntax.{Width}
use mir.Val.{bits, hbits}
use Rattle.std.specs.Int.{abs_diff}
use Rattle.std.specs.Prelude.{sum_by, zip}
use Rattle.std.specs.Simd.Lanes.{Each1, Steps, zip2, sel_l, top, fold_l, sum_l}
use Rattle.std.proofs.lemmas.Bool.Decides.{nat_tests}
use Rattle.std.proofs.lemmas.List.{map-id, length-take-le}
use Rattle.std.proofs.lemmas.Simd.{tops_compared, sum_fits, fold-sum, chunk-fits, below_from_Fits}
use Rattle.std.proofs.Math.Nat.{mul-le-mul, add-mod_right, mod-eq_of_lt}

-- The larger of two values minus the smaller one, in lanes that wrap.
wrapped_gap : (m x y : ℕ) → x < m → y < m → (cond (ltb x y) y x + (m - cond (ltb x y) x y)) % m ≡ abs_diff x y
wrapped_gap m x y small small1 =
    let e : cond (ltb x y) y x + (m - cond (ltb x y) x y) ≡ abs_diff x y + m = grind (arith, nat_tests) in
    rw e (add-mod_right (abs_diff x y) m ∙ mod-eq_of_lt (omega arith))

selected_gaps : (m : ℕ) (xs ys : List ℕ) → Each1 (λ x. x < m) xs → Each1 (λ y. y < m) ys
    → zip2 (λ x y. (x + (m - y)) % m) (sel_l (zip2 ltb xs ys) ys xs) (sel_l (zip2 ltb xs ys) xs ys)
    ≡ zip2 abs_diff xs ys
selected_gaps m (x ∷ xs) (y ∷ ys) small small1 =
    rw (wrapped_gap m x y small.0 small1.0, selected_gaps m xs ys small.1 small1.1)
selected_gaps m xs ys small small1 = refl

pub square_at_most : (m x y : ℕ) → x < m → y < m → squared_error x y ≤ (m - 1) * (m - 1)
square_at_most m x y small small1 = let gap : abs_diff x y ≤ m - 1 = omega arith in mul-le-mul gap gap

-- Squares in lanes that are wide enough do not wrap.
pub wrapped_squares : (size m : ℕ) → (m - 1) * (m - 1) < size → (xs ys : List ℕ) → Each1 (λ x. x < m) xs
    → Each1 (λ y. y < m) ys
    → zip2 (λ x y. (x * y) % size) (zip2 abs_diff xs ys) (zip2 abs_diff xs ys) ≡ zip2 squared_error xs ys
wrapped_squares size m room (x ∷ xs) (y ∷ ys) small small1 =
    let fits : squared_error x y < size = omega (arith, square_at_most m x y small.0 small1.0) in
    rw (mod-eq_of_lt fits, wrapped_squares size m room xs ys small.1 small1.1)
wrapped_squares size m room xs ys small small1 = refl

-- Lanes of absolute differences, computed by comparisons and selections, and then widened.
abbrev wide_gaps : Width → List ℕ → List ℕ → List ℕ
wide_gaps w xs ys =
    let less = map (top (hbits w)) (zip2 (λ x y. cond (ltb x y) (2 ^ bits w - 1) 0) xs ys) in
    map (λ gap. gap) (zip2 (λ x y. (x + (2 ^ bits w - y)) % 2 ^ bits w) (sel_l less ys xs) (sel_l less xs ys))

-- Squares that are computed in 32 bits.
abbrev squares_of : List ℕ → List ℕ
squares_of gaps = zip2 (λ x y. (x * y) % 2 ^ 32) gaps gaps

-- Blocks of n lanes of the width w, whose sum is computed in the width v.
module _ (w v : Width) (n : ℕ) (a b : List ℕ) (fits : (k : ℕ) → Fits w (get_or a k 0))
    (fits1 : (k : ℕ) → Fits w (get_or b k 0)) (long : n ≤ length a) where
  small : Each1 (λ x. x < 2 ^ bits w) (take n a)
  small = below_from_Fits w _ (chunk-fits w 0 n a fits)

  small1 : Each1 (λ x. x < 2 ^ bits w) (take n b)
  small1 = below_from_Fits w _ (chunk-fits w 0 n b fits1)

  -- No sum of these lanes exceeds their width, and their total is the sum over the pairs.
  abbrev AddsTo : (ℕ → ℕ → ℕ) → List ℕ → Type 0
  AddsTo f lanes =
      Steps (λ sum x. Fits v (sum + x)) (λ sum x. sum + x) 0 lanes
      × (fold_l (λ sum x. sum + x) 0 lanes ≡ sum_by (λ p. f p.0 p.1) (zip (take n a) (take n b)))

  adds_to : (f : ℕ → ℕ → ℕ) (most : ℕ) → ((x y : ℕ) → x < 2 ^ bits w → y < 2 ^ bits w → f x y ≤ most)
      → most * n < 2 ^ bits v
      → AddsTo f (zip2 f (take n a) (take n b))
  adds_to f most each room =
      let lanes = zip2 f (take n a) (take n b) in
      let is = sum_of_lanes f (take n a) (take n b) in
      let bound = rw (length-take-le n a long) at (sum_of_pairs-at_most f (2 ^ bits w) most each (take n a)
      (take n b) small small1) in
      (sum_fits v 0 lanes (omega (arith, is, bound, room)), fold-sum 0 lanes ∙ zero-add (sum_l lanes) ∙ is)

  pub gaps_are : wide_gaps w (take n a) (take n b) ≡ zip2 abs_diff (take n a) (take n b)
  gaps_are =
      rw (tops_compared w ltb (take n a) (take n b), selected_gaps (2 ^ bits w) (take n a) (take n b) small small1)
      (map-id _)

  pub absolute_block : (2 ^ bits w - 1) * n < 2 ^ bits v → AddsTo abs_diff (wide_gaps w (take n a) (take n b))
  absolute_block room = rw gaps_are (adds_to abs_diff (2 ^ bits w - 1) (λ x y h h1. omega arith) room)

  -- Squares that are computed in 32 bits and then widened.
  pub widened_squares : (2 ^ bits w - 1) * (2 ^ bits w - 1) < 2 ^ 32
      → map (λ square. square) (squares_of (zip2 abs_diff (take n a) (take n b)))
      ≡ zip2 squared_error (take n a) (take n b)
  widened_squares narrow =
      map-id (squares_of (zip2 abs_diff (take n a) (take n b)))
      ∙ wrapped_squares (2 ^ 32) (2 ^ bits w) narrow (take n a) (take n b) small small1

  pub squared_block : (2 ^ bits w - 1) * (2 ^ bits w - 1) < 2 ^ 32
      → (2 ^ bits w - 1) * (2 ^ bits w - 1) * n < 2 ^ bits v
      → AddsTo squared_error (squares_of (wide_gaps w (take n a) (take n b)))
  squared_block narrow room =
      rw (gaps_are, wrapped_squares (2 ^ 32) (2 ^ bits w) narrow (take n a) (take n b) small small1)
      (adds_to squared_error ((2 ^ bits w - 1) * (2 ^ bits w - 1)) (square_at_most (2 ^ bits w)) room)

  -- Squares that are computed in 32 bits, and widened before they are added.
  pub wide_squared_block : (2 ^ bits w - 1) * (2 ^ bits w - 1) < 2 ^ 32
      → (2 ^ bits w - 1) * (2 ^ bits w - 1) * n < 2 ^ bits v
      → AddsTo squared_error (map (λ square. square) (squares_of (wide_gaps w (take n a) (take n b))))
  wide_squared_block narrow room =
      rw (map-id (squares_of (wide_gaps w (take n a) (take n b)))) (squared_block narrow room)
