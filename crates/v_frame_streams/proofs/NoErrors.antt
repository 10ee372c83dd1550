-- Tables of the same size are equal exactly if the sum of their squared errors is 0.
use Rattle.std.proofs.Common.{ℕ, zero, suc, ◌≡◌, ◌*◌, All, List, [], ◌∷◌, length, refl, sym, ◌∙◌, ap, arith, subst}
use Rattle.std.specs.Prelude.{◌↔◌, sum_by, zip}
use Rattle.std.specs.Int.{abs_diff}
use Rattle.std.proofs.Math.Nat.{le-mul_of_pos_right}
use Rattle.std.proofs.lemmas.List.Sums.{sum_by-cons}
use Rattle.v_frame.specs.Prelude.{Table, row_major, squared_error, squared_errors}
use Rattle.v_frame_raster.proofs.SumsOfPairs.{sum_of_pairs-adds_up}

square_is_none : (n : ℕ) → n * n ≡ 0 → n ≡ 0
square_is_none zero none = refl
square_is_none (suc n) none =
    let no_less = le-mul_of_pos_right {m = suc n} (suc n) (omega arith) in absurd (omega (arith, no_less, none))

values_agree : (p q : ℕ) → squared_error p q ≡ 0 → p ≡ q
values_agree p q none = let apart : abs_diff p q ≡ 0 = square_is_none (abs_diff p q) none in omega (arith, apart)

no_error_here : (p : ℕ) → squared_error p p ≡ 0
no_error_here p = let apart : abs_diff p p ≡ 0 = omega arith in ap (λ (d : ℕ). d * d) apart

module _ {T : Type 0} (of : T × T → ℕ) where
  no_sum : ((x : T) → of (x, x) ≡ 0) → (xs : List T) → sum_by of (zip xs xs) ≡ 0
  no_sum none [] = refl
  no_sum none (x ∷ xs) = omega (arith, sum_by-cons of (x, x) (zip xs xs), none x, no_sum none xs)

  module _ (agree : (x y : T) → of (x, y) ≡ 0 → x ≡ y) where
    rows_agree : (xs ys : List T) → length xs ≡ length ys → sum_by of (zip xs ys) ≡ 0 → xs ≡ ys
    rows_agree [] [] long none = refl
    rows_agree [] (y ∷ ys) long none = absurd (omega (arith, long))
    rows_agree (x ∷ xs) [] long none = absurd (omega (arith, long))
    rows_agree (x ∷ xs) (y ∷ ys) long none =
        let parts = sum_by-cons of (x, y) (zip xs ys) in
        let here : of (x, y) ≡ 0 = omega (arith, parts, none) in
        let rest : sum_by of (zip xs ys) ≡ 0 = omega (arith, parts, none) in
        ap (λ (z : T). z ∷ xs) (agree x y here)
        ∙ ap (λ (zs : List T). y ∷ zs) (rows_agree xs ys (omega (arith, long)) rest)

    tables_agree : (width : ℕ) (a b : Table T) → All (λ row. length row ≡ width) a
        → All (λ row. length row ≡ width) b → length a ≡ length b
        → sum_by of (zip (row_major a) (row_major b)) ≡ 0 → a ≡ b
    tables_agree width [] [] rows others long none = refl
    tables_agree width [] (other ∷ b) rows others long none = absurd (omega (arith, long))
    tables_agree width (row ∷ a) [] rows others long none = absurd (omega (arith, long))
    tables_agree width (row ∷ a) (other ∷ b) rows others long none =
        let wide : length row ≡ width = rows 0 row (omega arith) in
        let also_wide : length other ≡ width = others 0 other (omega arith) in
        let parts = (sum_of_pairs-adds_up of).joined row other (row_major a) (row_major b) (wide ∙ sym also_wide) in
        let here : sum_by of (zip row other) ≡ 0 = omega (arith, parts, none) in
        let rest : sum_by of (zip (row_major a) (row_major b)) ≡ 0 = omega (arith, parts, none) in
        ap (λ (r : List T). r ∷ a) (rows_agree row other (wide ∙ sym also_wide) here)
        ∙ ap (λ (t : Table T). other ∷ t) (tables_agree width a b (λ k d within. rows (suc k) d (omega (arith, within)))
        (λ k d within. others (suc k) d (omega (arith, within))) (omega (arith, long)) rest)

module _ {T : Type 0} (value : T → ℕ) (one_value : (p q : T) → value p ≡ value q → p ≡ q) where
  pub no_errors_where_same : (width : ℕ) (a b : Table T) → All (λ row. length row ≡ width) a
      → All (λ row. length row ≡ width) b → length a ≡ length b
      → (squared_errors value (row_major a) (row_major b) ≡ 0) ↔ (a ≡ b)
  no_errors_where_same width a b rows others long = (
    tables_agree (λ p. squared_error (value p.0) (value p.1))
        (λ x y none. one_value x y (values_agree (value x) (value y) none)) width a b rows others long,
    λ same. subst (λ (t : Table T). squared_errors value (row_major a) (row_major t) ≡ 0) same
        (no_sum (λ p. squared_error (value p.0) (value p.1)) (λ x. no_error_here (value x)) (row_major a)),
  )
