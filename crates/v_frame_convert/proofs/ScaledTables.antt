-- Rows and tables computed from the column and the row, and means of one row or two rows.
use Rattle.std.proofs.Common.{ℕ, zero, suc, ◌≡◌, ◌≢◌, ◌+◌, ◌-◌, ◌*◌, ◌/◌, ◌<◌, List, [], ◌∷◌, ◌++◌, length, map, min}
use Rattle.std.proofs.Common.{Some, slice_get, sum, refl, sym, ◌∙◌, ap, subst, arith, length-append, append-nil}
use Rattle.std.proofs.Math.Nat.{div-div-eq-div-mul, min-eq_left}
use Rattle.std.specs.List.{range_with_len}
use Rattle.std.proofs.lemmas.List.Sums.{sum_by-append}
use Rattle.std.proofs.lemmas.List.FromFn.{length-map-range_with_len}
use Rattle.std.proofs.lemmas.Option.{same_Some}
use Rattle.v_frame.specs.Prelude.{Table, PixelForm}
use Rattle.v_frame_raster.proofs.tables.Lists.{same_by_slice_get}
use Rattle.v_frame_convert.specs.Scale.{places, SizesFit, mean_of, values_at, values_of_row, block_mean}
use Rattle.v_frame_convert.specs.ScaledRows.{line_pair}
use Rattle.v_frame_convert.specs.declared.scale.Scale.{Scale}
use Rattle.v_frame_convert.specs.declared.scale.Scale.TheVariants.{Quarter, Half, Same, Double, Quadruple}

module _ {X : Type 0} (f : ℕ → X) where
  get_from : (a n k : ℕ) → k < n → slice_get (map f (range_with_len a n)) k ≡ Some (f (a + k))
  get_from a zero k h = absurd (omega arith)
  get_from a (suc n) zero h = let e : a + 0 ≡ a = omega arith in rw e refl
  get_from a (suc n) (suc k) h =
      let e : a + suc k ≡ a + 1 + k = omega arith in
      rw e (get_from (a + 1) n k (omega arith))

  pub slice_get-from_function : (n k : ℕ) → k < n → slice_get (map f (range_with_len 0 n)) k ≡ Some (f k)
  slice_get-from_function n k h =
      let e : 0 + k ≡ k = omega arith in
      get_from 0 n k h ∙ ap (λ i. Some (f i)) e

  -- A list whose items are the results of a function of the index.
  pub is_from_function : (n : ℕ) (xs : List X) → length xs ≡ n → ((k : ℕ) → k < n → slice_get xs k ≡ Some (f k))
      → xs ≡ map f (range_with_len 0 n)
  is_from_function n xs count each =
      same_by_slice_get xs (map f (range_with_len 0 n)) (count ∙ sym (length-map-range_with_len f 0 n))
      (λ k h. each k (omega arith) ∙ sym (slice_get-from_function n k (omega arith)))

-- The mean of a list equals the mean of the list appended to itself.
mean_of_twice : (values : List ℕ) → mean_of (values ++ values) ≡ mean_of values
mean_of_twice values =
    let n = length values in
    let s = sum values in
    let half : (n + n) / 2 ≡ n = omega arith in
    let double : n + n ≡ 2 * n = omega arith in
    let inner : (s + s + n) / 2 ≡ s + n / 2 = omega arith in
    rw (sum_by-append (λ k. k) values values, length-append values values, half, double) (
    sym (div-div-eq-div-mul (s + s + n) 2 n) ∙ ap (λ k. k / n) inner)

module _ {S : Type 0} (form : PixelForm S) (columns : List ℕ) (rows : Table S) where
  -- The values in a row that exists.
  row_values : (y : ℕ) (row : List S) → slice_get rows (min y (length rows - 1)) ≡ Some row
      → values_of_row form columns rows y ≡ values_at form columns row
  row_values y row is = rw is refl

  one_line : (y : ℕ) (row : List S) → y < length rows → slice_get rows y ≡ Some row
      → block_mean form columns (y ∷ []) rows ≡ mean_of (values_at form columns row ++ values_at form columns row)
  one_line y row within is =
      let here : min y (length rows - 1) ≡ y = min-eq_left (omega arith) in
      let values = row_values y row (rw here is) in
      ap mean_of (append-nil (values_of_row form columns rows y) ∙ values)
      ∙ sym (mean_of_twice (values_at form columns row))

  twice_one : (y : ℕ) (top bottom : List S) → y < length rows → slice_get rows y ≡ Some top
      → slice_get rows y ≡ Some bottom
      → block_mean form columns (y ∷ []) rows ≡ mean_of (values_at form columns top ++ values_at form columns bottom)
  twice_one y top bottom within is under =
      subst (λ row. block_mean form columns (y ∷ []) rows
      ≡ mean_of (values_at form columns top ++ values_at form columns row)) (same_Some top bottom (sym is ∙ under))
      (one_line y top within is)

  pub lines_mean : (down : Scale) (y height : ℕ) (top bottom : List S) → down ≢ Quarter
      → SizesFit down (length rows) height → y < height
      → slice_get rows ((line_pair down y (length rows)).0) ≡ Some top
      → slice_get rows ((line_pair down y (length rows)).1) ≡ Some bottom
      → block_mean form columns (places down y) rows
      ≡ mean_of (values_at form columns top ++ values_at form columns bottom)
  lines_mean Quarter y height top bottom pairs fit high is under = absurd (pairs refl)
  lines_mean Half y height top bottom pairs fit high is under =
      let here : min (2 * y) (length rows - 1) ≡ 2 * y = min-eq_left (omega (arith, fit, high)) in
      let first = row_values (2 * y) top (rw here is) in
      let second = row_values (2 * y + 1) bottom under in
      rw (first, second, append-nil (values_at form columns bottom)) refl
  lines_mean Same y height top bottom pairs fit high is under =
      twice_one y top bottom (omega (arith, fit, high)) is under
  lines_mean Double y height top bottom pairs fit high is under =
      twice_one (y / 2) top bottom (omega (arith, fit, high)) is under
  lines_mean Quadruple y height top bottom pairs fit high is under =
      twice_one (y / 4) top bottom (omega (arith, fit, high)) is under
