-- Upper bounds for sums over pixels whose values are below a limit.
use Rattle.std.proofs.Common.{ℕ, zero, suc, ◌≡◌, ◌+◌, ◌*◌, ◌≤◌, List, [], ◌∷◌, ◌++◌, length, take, drop, map, arith}
use Rattle.std.proofs.Math.Nat.{mul-le-mul, le_refl}
use Rattle.std.proofs.lemmas.List.{length-take, length-append}
use Rattle.std.specs.Simd.Lanes.{Each1}
use Rattle.std.specs.Prelude.{zip}
use Rattle.std.proofs.lemmas.List.Sums.{sum_by-cons}
use Rattle.v_frame.specs.Prelude.{Table, rectangle, row_major}
use Rattle.v_frame_statistics.specs.Prelude.{sum_of_products, sum_of_squares, sum_of_values}
use Rattle.v_frame_measures.specs.declared.similarity.sums.PixelSums.{PixelSums}
use Rattle.v_frame_measures.specs.ColumnSums.{HasValuesUpTo, IsUpTo}
use Rattle.v_frame_measures.specs.PixelSums.{sums_of_rectangle}

-- Bounds for the sums over `pixels` pixels whose values are at most `most`.
pub record AtMost (most pixels : ℕ) (sums : PixelSums) : Type 0 where
  pub first : sums.first ≤ most * pixels
  pub second : sums.second ≤ most * pixels
  pub squares : sums.squares ≤ 2 * (most * most * pixels)
  pub products : sums.products ≤ most * most * pixels

module _ {T : Type 0} (value : T → ℕ) (most : ℕ) where
  abbrev Few : List T → Type 0
  Few xs = Each1 (λ p. value p ≤ most) xs

  values_at_most : (xs : List T) → Few xs → sum_of_values value xs ≤ most * length xs
  values_at_most [] few = omega arith
  values_at_most (x ∷ xs) few =
      let rest = values_at_most xs few.1 in
      let next : most * suc (length xs) ≡ most + most * length xs = omega arith in
      omega (arith, rest, few.0, next, sum_by-cons value x xs)

  squares_at_most : (xs : List T) → Few xs → sum_of_squares value xs ≤ most * most * length xs
  squares_at_most [] few = omega arith
  squares_at_most (x ∷ xs) few =
      let rest = squares_at_most xs few.1 in
      let here : value x * value x ≤ most * most = mul-le-mul few.0 few.0 in
      let next : most * most * suc (length xs) ≡ most * most + most * most * length xs = omega arith in
      omega (arith, rest, here, next, sum_by-cons (λ p. value p * value p) x xs)

  products_at_most : (xs ys : List T) → Few xs → Few ys → sum_of_products value xs ys ≤ most * most * length xs
  products_at_most [] ys few few1 = omega arith
  products_at_most (x ∷ xs) [] few few1 = omega arith
  products_at_most (x ∷ xs) (y ∷ ys) few few1 =
      let rest = products_at_most xs ys few.1 few1.1 in
      let here : value x * value y ≤ most * most = mul-le-mul few.0 few1.0 in
      let next : most * most * suc (length xs) ≡ most * most + most * most * length xs = omega arith in
      omega (arith, rest, here, next, sum_by-cons (λ pair. value pair.0 * value pair.1) (x, y) (zip xs ys))

  each_append : (xs ys : List T) → Few xs → Few ys → Few (xs ++ ys)
  each_append [] ys few few1 = few1
  each_append (x ∷ xs) ys few few1 = (few.0, each_append xs ys few.1 few1)

  each_drop : (n : ℕ) (xs : List T) → Few xs → Few (drop n xs)
  each_drop zero xs few = few
  each_drop (suc n) [] few = few
  each_drop (suc n) (x ∷ xs) few = each_drop n xs few.1

  each_take : (n : ℕ) (xs : List T) → Few xs → Few (take n xs)
  each_take zero xs few = tt
  each_take (suc n) [] few = tt
  each_take (suc n) (x ∷ xs) few = (few.0, each_take n xs few.1)

  of_row : (least : ℕ) → least ≤ most → (xs : List T) → IsUpTo value least xs → Few xs
  of_row least h [] all = tt
  of_row least h (x ∷ xs) all =
      let here = all 0 x (omega arith) in
      (omega (arith, here, h), of_row least h xs (λ k d within. all (suc k) d (omega (arith, within))))

  -- The bounds on the number and on the values of the pixels of a rectangle.
  record Part (pixels : ℕ) (xs : List T) : Type 0 where
    few : Few xs
    long : length xs ≤ pixels

  part_of : (least : ℕ) → least ≤ most → (x width height : ℕ) (rows : Table T) → HasValuesUpTo value least rows
      → Part (width * height) (row_major (map (λ row. take width (drop x row)) (take height rows)))
  part_of least h x width zero rows all = record { few = tt; long = omega arith }
  part_of least h x width (suc height) [] all = record { few = tt; long = omega arith }
  part_of least h x width (suc height) (row ∷ rows) all =
      let rest = part_of least h x width height rows (λ k d within. all (suc k) d (omega (arith, within))) in
      let cut = take width (drop x row) in
      let here : Few row = of_row least h row (all 0 row (omega arith)) in
      let next : width * suc height ≡ width + width * height = omega arith in
      let narrow : length cut ≤ width = omega (arith, length-take width (drop x row)) in
      record {
        few = each_append cut _ (each_take width (drop x row) (each_drop x row here)) rest.few;
        long = omega (arith, length-append cut (row_major (map (λ r. take width (drop x r)) (take height rows))), narrow, rest.long, next);
      }

  dropped : (least y : ℕ) (rows : Table T) → HasValuesUpTo value least rows → HasValuesUpTo value least (drop y rows)
  dropped least zero rows all = all
  dropped least (suc y) [] all = all
  dropped least (suc y) (row ∷ rows) all = dropped least y rows (λ k d within. all (suc k) d (omega (arith, within)))

  pub sums_at_most : (least x y width height : ℕ) (a b : Table T) → least ≤ most → HasValuesUpTo value least a
      → HasValuesUpTo value least b
      → AtMost most (width * height) (sums_of_rectangle value x y width height a b)
  sums_at_most least x y width height a b h all all1 =
      let p = part_of least h x width height (drop y a) (dropped least y a all) in
      let q = part_of least h x width height (drop y b) (dropped least y b all1) in
      let xs = row_major (rectangle x y width height a) in let ys = row_major (rectangle x y width height b) in
      let more : most * length xs ≤ most * (width * height) = mul-le-mul (le_refl most) p.long in
      let more1 : most * length ys ≤ most * (width * height) = mul-le-mul (le_refl most) q.long in
      let square : most * most * length xs ≤ most * most * (width * height) = mul-le-mul (le_refl (most * most)) p.long in
      let square1 : most * most * length ys ≤ most * most * (width * height) = mul-le-mul (le_refl (most * most)) q.long in
      record {
        first = omega (arith, values_at_most xs p.few, more);
        second = omega (arith, values_at_most ys q.few, more1);
        squares = omega (arith, squares_at_most xs p.few, squares_at_most ys q.few, square, square1);
        products = omega (arith, products_at_most xs ys p.few q.few, square);
      }
