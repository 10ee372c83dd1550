-- Two lists that are combined item by item: the number of items, and the items. And the front of a
-- buffer.
use Rattle.std.proofs.Common.{ℕ, zero, suc, ◌≡◌, ◌+◌, ◌≤◌, List, [], ◌∷◌, ◌++◌, length, take, Some, slice_get, None}
use Rattle.std.proofs.Common.{refl, ◌∙◌, ap, arith, length-take-le}
use Rattle.std.proofs.Math.Nat.{mul-div_cancel_left}
use lib.Seq.{take-append-le, take-append-add}
use borrow.Rule.Slice.PartMut.{put_mid, post_of}
use Rattle.std.proofs.Common.{◌*◌, ◌/◌, ◌<◌, All, length-append}
use Rattle.std.proofs.lemmas.List.Elements.{All-head, All-tail}
use Rattle.v_frame.specs.Prelude.{Table, row_major}
use Rattle.v_frame_ops.specs.Change.{combined}

module _ {X : Type 0} (make : X → X → X) where
  pub combined_with_none : (xs : List X) → combined make xs [] ≡ []
  combined_with_none [] = refl
  combined_with_none (x ∷ xs) = refl

  pub length-combined : (xs ys : List X) → length ys ≡ length xs → length (combined make xs ys) ≡ length xs
  length-combined [] ys same = refl
  length-combined (x ∷ xs) [] same = absurd (omega arith)
  length-combined (x ∷ xs) (y ∷ ys) same = omega (arith, length-combined xs ys (omega arith))

  pub slice_get-combined : (xs ys : List X) (k : ℕ) (x y : X) → slice_get xs k ≡ Some x → slice_get ys k ≡ Some y
      → slice_get (combined make xs ys) k ≡ Some (make x y)
  slice_get-combined [] ys k x y is beside = absurd (let no : None ≡ Some x = is in cc)
  slice_get-combined (a ∷ xs) [] k x y is beside = absurd (let no : None ≡ Some y = beside in cc)
  slice_get-combined (a ∷ xs) (b ∷ ys) zero x y is beside =
      let first : Some a ≡ Some x = is in
      let second : Some b ≡ Some y = beside in
      cc
  slice_get-combined (a ∷ xs) (b ∷ ys) (suc k) x y is beside = slice_get-combined xs ys k x y is beside

-- If a part of a buffer was filled, the items up to the filled ones are those in front of it and
-- those at its front.
pub taken_from_part : (at long n : ℕ) (old part : List ℕ) → at ≤ length old → n ≤ length part
    → take (at + n) (put_mid at long old part) ≡ take at old ++ take n part
taken_from_part at long n old part within fits =
    let behind = post_of at long old in
    rw (length-take-le at old within, take-append-le n part behind fits) at
    (take-append-add (take at old) (part ++ behind) n)

-- The number of pixels in rows of one width.
pub length-row_major : {T : Type 0} (width : ℕ) (rows : Table T) → All (λ row. length row ≡ width) rows
    → length (row_major rows) ≡ length rows * width
length-row_major width [] wide = omega arith
length-row_major width (row ∷ rows) wide =
    let long = All-head (λ r. length r ≡ width) row rows wide in
    simp length-append (omega (arith, long, length-row_major width rows (All-tail (λ r. length r ≡ width) row rows wide)))

-- A multiple of a number, divided by that number.
pub quotient_is : (size count n : ℕ) → 0 < size → n ≡ size * count → n / size ≡ count
quotient_is size count n some is = ap (λ k. k / size) is ∙ mul-div_cancel_left count some
