-- Differences of two lists of numbers as floats, computed from their absolute values and signs.
use Rattle.std.proofs.Common.{ℕ, ◌≡◌, ◌+◌, ◌-◌, ◌^◌, ◌%◌, ◌<◌, List, [], ◌∷◌, cond, ltb, leb, map, inl, inr, refl, ap, ◌∙◌, arith, true, false, Fits, w32}
use Rattle.std.specs.Prelude.{pos, ◌-ℤ◌}
use Rattle.std.specs.Int.{abs_diff}
use Rattle.std.specs.Float.Ieee.{Float, binary32, neg, of_int}
use Rattle.std.specs.Simd.Lanes.{Each1, zip2, sel_l, top}
use Rattle.std.proofs.lemmas.Bool.{cases_lt}
use Rattle.std.proofs.lemmas.Bool.Decides.{nat_tests}
use Rattle.std.proofs.lemmas.Int.{ints}
use Rattle.std.proofs.lemmas.Simd.{tops_compared, below_from_Fits}
use Rattle.std.proofs.Math.Nat.{add-mod_right, mod-eq_of_lt}
use Rattle.v_frame_measures.proofs.Halves.{negated_difference}

abbrev pub single : ℕ → Float
single n = of_int binary32 (pos n)

abbrev pub signed : ℕ → ℕ → Float
signed a b = of_int binary32 (pos a -ℤ pos b)

-- The absolute difference of two numbers, computed in 32-bit lanes.
abbrev gap : ℕ → ℕ → ℕ
gap x y = (cond (ltb x y) y x + (2 ^ 32 - cond (ltb x y) x y)) % 2 ^ 32

abbrev gaps : List ℕ → List ℕ → List Float
gaps xs ys =
    let less = zip2 ltb xs ys in map single (zip2 (λ x y. (x + (2 ^ 32 - y)) % 2 ^ 32) (sel_l less ys xs) (sel_l less xs ys))

gap_is : (x y : ℕ) → x < 2 ^ 32 → y < 2 ^ 32 → gap x y ≡ abs_diff x y
gap_is x y small small1 =
    let e : cond (ltb x y) y x + (2 ^ 32 - cond (ltb x y) x y) ≡ abs_diff x y + 2 ^ 32 = grind (arith, nat_tests) in
    rw e (add-mod_right (abs_diff x y) (2 ^ 32) ∙ mod-eq_of_lt (omega arith))

signed_lane : (x y : ℕ) → x < 2 ^ 32 → y < 2 ^ 32 → cond (leb y x) (single (gap x y)) (neg (single (gap x y))) ≡ signed x y
signed_lane x y small small1 = elim (cases_lt x y) [
  | inl below ↦
      let test : leb y x ≡ false = grind (arith, nat_tests) in
      let size : gap x y ≡ y - x = gap_is x y small small1 ∙ omega arith in
      rw (test, size) (negated_difference binary32 x y below)
  | inr above ↦
      let test : leb y x ≡ true = grind (arith, nat_tests) in
      let size : gap x y ≡ x - y = gap_is x y small small1 ∙ omega arith in
      let is : pos (x - y) ≡ pos x -ℤ pos y = omega (arith, ints) in
      rw (test, size) (ap (of_int binary32) is)
]

signed_lanes : (xs ys : List ℕ) → Each1 (λ x. x < 2 ^ 32) xs → Each1 (λ y. y < 2 ^ 32) ys
    → sel_l (zip2 leb ys xs) (gaps xs ys) (map neg (gaps xs ys)) ≡ zip2 signed xs ys
signed_lanes [] [] small small1 = refl
signed_lanes [] (y ∷ ys) small small1 = refl
signed_lanes (x ∷ xs) [] small small1 = refl
signed_lanes (x ∷ xs) (y ∷ ys) small small1 =
    rw (signed_lane x y small.0 small1.0, signed_lanes xs ys small.1 small1.1) refl

pub differences : (xs ys : List ℕ) (sizes : List Float) → Each1 (Fits w32) xs → Each1 (Fits w32) ys
    → (let less = map (top 31) (zip2 (λ x y. cond (ltb x y) (2 ^ 32 - 1) 0) xs ys) in
    sizes ≡ map single (zip2 (λ x y. (x + (2 ^ 32 - y)) % 2 ^ 32) (sel_l less ys xs) (sel_l less xs ys)))
    → sel_l (map (top 31) (zip2 (λ x y. cond (leb x y) (2 ^ 32 - 1) 0) ys xs)) sizes (map neg sizes) ≡ zip2 signed xs ys
differences xs ys sizes fits fits1 is =
    rw (is, tops_compared w32 ltb xs ys, tops_compared w32 leb ys xs)
    (signed_lanes xs ys (below_from_Fits w32 xs fits) (below_from_Fits w32 ys fits1))
