-- Sums over two rows in eight lanes: the partial sums in the lanes after some of the pairs.
use Rattle.std.proofs.Common.{ℕ, ◌≡◌, ◌+◌, ◌-◌, ◌*◌, ◌^◌, ◌/◌, ◌%◌, ◌<◌, ◌≤◌, List, [], ◌∷◌, length, take, drop, replicate}
use Rattle.std.proofs.Common.{refl, ap, ◌∙◌, arith, mul-suc, zero-add, Fits, get_or}
use mir.Syntax.{Width}
use mir.Val.{bits}
use Rattle.std.specs.Prelude.{sum_by, zip}
use Rattle.std.specs.Simd.Lanes.{Each1, Steps, zip2, sum_l, fold_l}
use Rattle.std.proofs.lemmas.List.{drop-drop, length-drop, length-take-le, take-take}
use Rattle.std.proofs.lemmas.Simd.{below_from_Fits, chunk-fits, fold-sum, length-zip2, sum_bound, sum_fits, Each1-replicate}
use Rattle.std.proofs.Math.Nat.{add-sub_cancel_left, mod-eq_of_lt, mul-le-mul, mul_assoc, mul_comm}
use Rattle.v_frame_raster.proofs.SumsOfPairs.{sum_of_lanes, sum_of_pairs-split, SumsUpTo}

-- Lanes that are wide enough for the addends do not wrap.
added : (most more size : ℕ) → most + more < size → (xs ys : List ℕ) → length xs ≡ length ys
    → Each1 (λ x. x ≤ most) xs → Each1 (λ y. y ≤ more) ys
    → let lanes = zip2 (λ x y. (x + y) % size) xs ys in
    (length lanes ≡ length xs) × Each1 (λ x. x ≤ most + more) lanes × (sum_l lanes ≡ sum_l xs + sum_l ys)
added most more size room [] [] same small small1 = (refl, tt, refl)
added most more size room (x ∷ xs) (y ∷ ys) same small small1 =
    let rest = added most more size room xs ys (omega (arith, same)) small.1 small1.1 in
    let fits : (x + y) % size ≡ x + y = mod-eq_of_lt (omega (arith, small.0, small1.0, room)) in (
      omega (arith, rest.0),
      (omega (arith, fits, small.0, small1.0), rest.1),
      omega (arith, fits, rest.2),
    )
added most more size room xs ys same small small1 = absurd (omega (arith, same))

each_at_most : (f : ℕ → ℕ → ℕ) (size most : ℕ) → ((x y : ℕ) → x < size → y < size → f x y ≤ most)
    → (xs ys : List ℕ) → Each1 (λ x. x < size) xs → Each1 (λ y. y < size) ys → Each1 (λ z. z ≤ most) (zip2 f xs ys)
each_at_most f size most each (x ∷ xs) (y ∷ ys) small small1 =
    (each x y small.0 small1.0, each_at_most f size most each xs ys small.1 small1.1)
each_at_most f size most each xs ys small small1 = tt

-- The first groups of eight are summed, and a pair adds at most `most`. Together with the remaining pairs, this is
-- the whole sum.
abbrev pub LanesHold : (ℕ → ℕ → ℕ) → ℕ → List ℕ → List ℕ → ℕ → List ℕ → Type 0
LanesHold f most a b k lanes =
    (length lanes ≡ 8) × Each1 (λ x. x ≤ most * k) lanes
    × (sum_l lanes + sum_by (λ p. f p.0 p.1) (zip (drop (8 * k) a) (drop (8 * k) b)) ≡ sum_by (λ p. f p.0 p.1) (zip a b))

pub lanes_hold-none : (f : ℕ → ℕ → ℕ) (most : ℕ) (a b : List ℕ) → LanesHold f most a b 0 (replicate 8 0)
lanes_hold-none f most a b = (refl, Each1-replicate (λ x. x ≤ most * 0) 8 0 (omega arith), zero-add _)

-- Rows of pixels of the width w, of which a pair adds at most `most`, in lanes of the width v.
module _ (w v : Width) (f : ℕ → ℕ → ℕ) (most : ℕ) (each : (x y : ℕ) → x < 2 ^ bits w → y < 2 ^ bits w → f x y ≤ most)
    (a b : List ℕ) (same : length a ≡ length b) (held : length a ≤ 65536) (room : most * 65536 < 2 ^ bits v)
    (narrow : most ≤ 2 ^ 64) (fits : (k : ℕ) → Fits w (get_or a k 0)) (fits1 : (k : ℕ) → Fits w (get_or b k 0)) where
  -- One step of a loop that adds group k of eight pixels, which it takes as slices of both rows.
  pub lanes_hold-more : (k : ℕ) (lanes eight : List ℕ) → k < length a / 8
      → eight ≡ zip2 f (take 8 (take (8 * k + 8 - 8 * k) (drop (8 * k) a)))
      (take 8 (take (8 * k + 8 - 8 * k) (drop (8 * k) b)))
      → LanesHold f most a b k lanes
      → LanesHold f most a b (k + 1) (zip2 (λ x y. (x + y) % 2 ^ bits v) lanes eight)
  lanes_hold-more k lanes eight left is holds =
      let rest = length-drop (8 * k) a in
      let rest1 = length-drop (8 * k) b in
      let xs = take 8 (drop (8 * k) a) in
      let ys = take 8 (drop (8 * k) b) in
      let eight_is : eight ≡ zip2 f xs ys =
      rw (take-take 8 8 (drop (8 * k) a) (omega arith), take-take 8 8 (drop (8 * k) b) (omega arith))
      at (rw (add-sub_cancel_left (8 * k) 8) at is) in
      let long = length-take-le 8 (drop (8 * k) a) (omega (arith, rest, left)) in
      let long1 = length-take-le 8 (drop (8 * k) b) (omega (arith, rest1, left, same)) in
      let long2 = length-zip2 f xs ys (omega (arith, long, long1)) in
      let small =
      each_at_most f (2 ^ bits w) most each xs ys (below_from_Fits w _ (chunk-fits w (8 * k) 8 a fits))
      (below_from_Fits w _ (chunk-fits w (8 * k) 8 b fits1)) in
      let more : most * (k + 1) ≡ most * k + most = omega (arith, mul-suc most k) in
      let last : k + 1 ≤ 65536 = omega (arith, left, held) in
      let bound : most * (k + 1) ≤ most * 65536 = mul-le-mul (omega arith) last in
      let next =
      added (most * k) most (2 ^ bits v) (omega (arith, more, bound, room)) lanes (zip2 f xs ys)
      (omega (arith, holds.0, long2, long)) holds.1 small in
      let split =
      rw (drop-drop 8 (8 * k) a, drop-drop 8 (8 * k) b)
      at (sum_of_pairs-split (λ p. f p.0 p.1) 8 (drop (8 * k) a) (drop (8 * k) b)) in
      let sum = sum_of_lanes f xs ys in
      let at_next : 8 * (k + 1) ≡ 8 * k + 8 = omega arith in
      rw eight_is (
        omega (arith, next.0, holds.0),
        rw more next.1,
        rw at_next (omega (arith, next.2, sum, split, holds.2)),
      )

  -- No sum of these lanes exceeds their width, and the total continues from pair to pair.
  pub lanes-add_up : (k : ℕ) (lanes : List ℕ) → k ≤ length a / 8 → LanesHold f most a b k lanes
      → Steps (λ sum x. Fits v (sum + x)) (λ sum x. sum + x) 0 lanes
      × SumsUpTo (λ p. f p.0 p.1) (8 * k) a b (fold_l (λ sum x. sum + x) 0 lanes)
  lanes-add_up k lanes left holds =
      let sum = fold-sum 0 lanes ∙ zero-add (sum_l lanes) in
      let small : sum_l lanes ≤ most * k * 8 = rw holds.0 at (sum_bound (most * k) lanes holds.1) in
      let same_bound : most * k * 8 ≡ most * (8 * k) = mul_assoc most k 8 ∙ ap (λ n. most * n) (mul_comm k 8) in
      let pixels : 8 * k ≤ 65536 = omega (arith, left, held) in
      let bound : most * (8 * k) ≤ most * 65536 = mul-le-mul (omega arith) pixels in
      let bound1 : most * (8 * k) ≤ 2 ^ 64 * (8 * k) = mul-le-mul narrow (omega arith) in (
        sum_fits v 0 lanes (omega (arith, small, same_bound, bound, room)),
        (omega (arith, sum, holds.2), omega (arith, sum, small, same_bound, bound1)),
      )
