-- Rows that are overwritten entry by entry, and writes outside of a table.
use Rattle.std.proofs.Common.{ℕ, zero, suc, ◌≡◌, ◌+◌, ◌<◌, ◌≤◌, min, List, [], ◌∷◌, length, take, Option, Some, None}
use Rattle.std.proofs.Common.{All, inl, inr, unwrap_or, get_or, slice_get, slice_set, refl, ap, arith, add-one}
use Rattle.std.proofs.lemmas.List.{set_past, set-get_or}
use Rattle.std.proofs.lemmas.List.Elements.{All-head, All-tail}
use Rattle.std.proofs.lemmas.Option.{slice_get_cases, slice_get_past}
use Rattle.v_frame_raster.specs.Table.{Table, overwritten_row, with_item_by, with_pixel}

module _ {X : Type 0} where
  pub overwritten_by_none : (row : List X) → overwritten_row row [] ≡ row
  overwritten_by_none [] = refl
  overwritten_by_none (x ∷ row) = refl

  -- Gaps keep the pixels.
  pub overwritten_by_gaps : (row : List X) (writes : List (Option X)) → All (λ write. write ≡ None) writes
      → overwritten_row row writes ≡ row
  overwritten_by_gaps [] writes none = refl
  overwritten_by_gaps (x ∷ row) [] none = refl
  overwritten_by_gaps (x ∷ row) (write ∷ writes) none =
      let rest = overwritten_by_gaps row writes (All-tail (λ write. write ≡ None) write writes none) in
      rw (All-head (λ write. write ≡ None) write writes none, rest) refl

  -- A row keeps its length.
  pub length-overwritten_row : (row : List X) (writes : List (Option X))
      → length (overwritten_row row writes) ≡ length row
  length-overwritten_row [] writes = refl
  length-overwritten_row (x ∷ row) [] = refl
  length-overwritten_row (x ∷ row) (write ∷ writes) = ap suc (length-overwritten_row row writes)

  written_next : (row : List X) (writes : List (Option X)) (i : ℕ) (write : Option X) (x : X) → i < length row
      → slice_get writes i ≡ Some write
      → let so_far = overwritten_row row (take i writes) in x ≡ get_or so_far i x →
      overwritten_row row (take (suc i) writes) ≡ slice_set so_far i (unwrap_or write x)
  written_next [] writes i write x h e here = absurd (omega arith)
  written_next (y ∷ row) [] i write x h e here = cc
  written_next (y ∷ row) (first ∷ writes) zero write x h e here =
      let is : first ≡ write = cc in
      rw (is, here) (ap (λ r. unwrap_or write y ∷ r) (overwritten_by_none row))
  written_next (y ∷ row) (first ∷ writes) (suc i) write x h e here =
      ap (λ r. unwrap_or first y ∷ r) (written_next row writes i write x (omega arith) e here)

  -- One more entry of the list is written.
  pub written_more : (row : List X) (writes : List (Option X)) (i : ℕ) (write : Option X) (x : X) → i < length row
      → slice_get writes i ≡ Some write
      → let so_far = overwritten_row row (take i writes) in x ≡ get_or so_far i x →
      overwritten_row row (take (i + 1) writes) ≡ slice_set so_far i (unwrap_or write x)
  written_more row writes i write x h e here = rw add-one (written_next row writes i write x h e here)

  -- Entries past the end of the row or of the list write nothing.
  pub written_all : (row : List X) (writes : List (Option X)) (n : ℕ) → min (length row) (length writes) ≤ n →
      overwritten_row row (take n writes) ≡ overwritten_row row writes
  written_all [] writes n h = refl
  written_all (y ∷ row) [] zero h = refl
  written_all (y ∷ row) [] (suc n) h = refl
  written_all (y ∷ row) (write ∷ writes) zero h = absurd (omega arith)
  written_all (y ∷ row) (write ∷ writes) (suc n) h =
      ap (λ r. unwrap_or write y ∷ r) (written_all row writes n (omega arith))

  -- A pixel beside the rows or below them is not written.
  pub with_pixel_beside : (rows : Table X) (width x y : ℕ) (pixel : X) → All (λ row. length row ≡ width) rows
      → width ≤ x → with_pixel rows x y pixel ≡ rows
  with_pixel_beside rows width x y pixel wide h =
      elim (slice_get_cases rows y).1 [
        | inl row ↦ rw (row.2, set_past row.0 x pixel (omega (arith, wide y row.0 row.1, ap length row.3)), ← row.3)
            (set-get_or rows y row.0)
        | inr none ↦ rw none.1 refl
      ]

  pub with_row_below : (change : List X → List X) (rows : Table X) (y : ℕ) → length rows ≤ y
      → with_item_by change rows y (slice_get rows y) ≡ rows
  with_row_below change rows y h = rw (slice_get_past rows y h) refl
