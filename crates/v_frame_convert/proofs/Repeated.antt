-- Each item of a list, repeated several times.
use Rattle.std.proofs.Common.{ℕ, zero, suc, ◌≡◌, ◌+◌, ◌-◌, ◌*◌, ◌/◌, ◌<◌, ◌≤◌, inl, inr, List, [], ◌∷◌, ◌++◌, length}
use Rattle.std.proofs.Common.{replicate, take, Some, slice_get, refl, sym, ◌∙◌, ap, arith, length-append}
use Rattle.std.proofs.Math.Nat.{add-div_left, div-eq_of_lt}
use Rattle.std.proofs.lemmas.Bool.{cases_lt}
use Rattle.std.proofs.lemmas.List.{length-replicate}
use Rattle.v_frame_raster.proofs.tables.Lists.{slice_get-take}
use Rattle.v_frame_raster.proofs.tables.ListItems.{slice_get-replicate, slice_get-append_left, slice_get-append_right}
use Rattle.v_frame_convert.specs.Chroma.{repeated}

module _ {X : Type 0} where
  pub length-repeated : (ratio : ℕ) (xs : List X) → length (repeated ratio xs) ≡ length xs * ratio
  length-repeated ratio [] = omega arith
  length-repeated ratio (x ∷ xs) =
      let one : suc (length xs) * ratio ≡ ratio + length xs * ratio = omega arith in
      length-append (replicate ratio x) (repeated ratio xs)
      ∙ rw (length-replicate ratio x, length-repeated ratio xs, one)

  pub slice_get-repeated : (ratio : ℕ) (xs : List X) (k : ℕ) → 0 < ratio
      → slice_get (repeated ratio xs) k ≡ slice_get xs (k / ratio)
  slice_get-repeated ratio [] k some = refl
  slice_get-repeated ratio (x ∷ xs) k some =
      let copies = replicate ratio x in
      let count : length copies ≡ ratio = length-replicate ratio x in
      elim (cases_lt k ratio) [
        | inl here ↦
            slice_get-append_left copies (repeated ratio xs) k (omega (arith, count))
            ∙ slice_get-replicate ratio k x here ∙ sym (ap (slice_get (x ∷ xs)) (div-eq_of_lt here))
        | inr past ↦
            let at : k ≡ length copies + (k - ratio) = omega (arith, count) in
            let next : k / ratio ≡ suc ((k - ratio) / ratio) =
            let e : k ≡ ratio + (k - ratio) = omega arith in
            ap (λ n. n / ratio) e ∙ add-div_left (k - ratio) some ∙ omega arith in
            ap (slice_get (copies ++ repeated ratio xs)) at
            ∙ slice_get-append_right copies (repeated ratio xs) (k - ratio)
            ∙ slice_get-repeated ratio xs (k - ratio) some ∙ sym (ap (slice_get (x ∷ xs)) next)
      ]

  -- Items that are repeated twice, followed by one item or none.
  pub twice_and_last : (source front rest : List X) (n : ℕ) → n ≤ length source → length front ≡ 2 * n
      → ((k : ℕ) → k < length front → slice_get front k ≡ slice_get (take n source) (k / 2)) → length rest < 2
      → ((k : ℕ) → k < length rest → slice_get rest k ≡ slice_get source n) → (k : ℕ) → k < length (front ++ rest)
      → slice_get (front ++ rest) k ≡ slice_get source (k / 2)
  twice_and_last source front rest n long twice each few last k h =
      elim (cases_lt k (2 * n)) [
        | inl here ↦
            slice_get-append_left front rest k (omega (arith, twice)) ∙ each k (omega (arith, twice))
            ∙ slice_get-take n source (k / 2) (omega arith)
        | inr past ↦
            let at : k ≡ length front + (k - 2 * n) = omega (arith, twice) in
            let half : k / 2 ≡ n = omega (arith, h, length-append front rest, twice, few) in
            ap (slice_get (front ++ rest)) at ∙ slice_get-append_right front rest (k - 2 * n)
            ∙ last (k - 2 * n) (omega (arith, h, length-append front rest, twice)) ∙ ap (slice_get source) (sym half)
      ]
