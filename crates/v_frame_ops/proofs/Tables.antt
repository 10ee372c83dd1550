-- Two tables of the same size are equal if they are equal pixel by pixel, and the pixels of a rectangle are pixels of
-- its table. The file also has lemmas for loops over rows that move pixels, write a table, or compare two tables.
use Rattle.std.proofs.Common.{ℕ, zero, suc, ◌≡◌, ◌≢◌, ◌+◌, ◌<◌, ◌≤◌, ◌⊎◌, All, List, [], ◌∷◌, length, take, drop}
use Rattle.std.proofs.Common.{slice_get}
use Rattle.std.proofs.Common.{Option, Some, None, option_map, option_and_then, refl, sym, ◌∙◌, ap, ⊎_elim, arith}
use Rattle.std.proofs.lemmas.List.Elements.{All-head, All-tail}
use Rattle.std.proofs.lemmas.Option.{same_Some, slice_get-map}
use Rattle.v_frame.specs.Prelude.{Table, pixel_at, rectangle}
use Rattle.std.proofs.Math.ListN.{set}
use Rattle.v_frame_raster.proofs.tables.Lists.{same_by_slice_get, slice_get-take, slice_get-drop, slice_get-set_same}
use Rattle.v_frame_ops.specs.Compare.{SameBelow, DifferFirstAt, IsFirstDifference}
use Rattle.v_frame_ops.specs.Rows.{HoldsPixelsFrom}
use borrow.Author.Count.{below_more}

-- Each row from `top` on, below row `y`, has the pixels that it had before in the columns `from x`. The rows from `y`
-- on are unchanged.
pub record MovedBelow {T : Type 0} (from : ℕ → ℕ) (width top : ℕ) (old now : Table T) (y : ℕ) : Type 0 where
  pub inside : (k : ℕ) → k < y → (x : ℕ) → x < width → top ≤ k → pixel_at now x k ≡ pixel_at old (from x) k
  pub others : (k : ℕ) → y ≤ k → slice_get now k ≡ slice_get old k

module _ {T : Type 0} where
  pub one_more_moved : (from : ℕ → ℕ) (width top : ℕ) (old now after : Table T) (y : ℕ) → MovedBelow from width top old
      now y
      → ((x : ℕ) → x < width → pixel_at after x y ≡ pixel_at now (from x) y) →
      ((k : ℕ) → k ≢ y → slice_get after k ≡ slice_get now k)
      → MovedBelow from width top old after (y + 1)
  one_more_moved from width top old now after y so_far row others = record {
    inside =
        below_more (λ k. (x : ℕ) → x < width → top ≤ k → pixel_at after x k ≡ pixel_at old (from x) k) y
        (λ k h x across down. ap (option_and_then (λ r. slice_get r x)) (others k (omega arith)) ∙ so_far.inside k h x
        across down)
        (λ x across down. row x across ∙ ap (option_and_then (λ r. slice_get r (from x)))
        (so_far.others y (omega arith)));
    others = λ k h. others k (omega arith) ∙ so_far.others k (omega arith);
  }

  -- If a row is replaced by a row with a pixel moved, the table has this pixel at its new position.
  pub pixel_is_moved : (old : Table T) (x y from : ℕ) (row new : List T) → slice_get old y ≡ Some row → slice_get new x
      ≡ slice_get row from
      → pixel_at (set old y new) x y ≡ pixel_at old from y
  pixel_is_moved old x y from row new is same =
      ap (option_and_then (λ r. slice_get r x)) (slice_get-set_same old y row new new is refl) ∙ same
      ∙ sym (ap (option_and_then (λ r. slice_get r from)) is)

  -- If a row is replaced by a row with the same pixel in one column, no pixel of the table in this column changes.
  pub pixel_is_kept : (old : Table T) (x y : ℕ) (row new : List T) → slice_get old y ≡ Some row → slice_get new x ≡
      slice_get row x
      → (k : ℕ) → pixel_at (set old y new) x k ≡ pixel_at old x k
  pixel_is_kept [] x y row new is same k = refl
  pixel_is_kept (first ∷ old) x zero row new is same zero = same ∙ ap (λ r. slice_get r x)
      (sym (same_Some first row is))
  pixel_is_kept (first ∷ old) x zero row new is same (suc k) = refl
  pixel_is_kept (first ∷ old) x (suc y) row new is same zero = refl
  pixel_is_kept (first ∷ old) x (suc y) row new is same (suc k) = pixel_is_kept old x y row new is same k

  -- Row `y` of two tables that are equal above it.
  module _ (table other : Table T) (y : ℕ) (row beside : List T) (is : slice_get table y ≡ Some row)
      (is_beside : slice_get other y ≡ Some beside)
      (above : (i j : ℕ) → j < y → pixel_at table i j ≡ pixel_at other i j) where
    pixel_here : (x : ℕ) → pixel_at table x y ≡ slice_get row x
    pixel_here x = ap (option_and_then (λ r. slice_get r x)) is

    pixel_beside : (x : ℕ) → pixel_at other x y ≡ slice_get beside x
    pixel_beside x = ap (option_and_then (λ r. slice_get r x)) is_beside

    pub first_difference_is : (x : ℕ) → DifferFirstAt row beside x → IsFirstDifference table other x y
    first_difference_is x at = record {
      above = above;
      before = λ i h. pixel_here i ∙ at.before i h ∙ sym (pixel_beside i);
      differs = λ same. at.differs (sym (pixel_here x) ∙ same ∙ pixel_beside x);
    }

    pub one_more_row_same : length row ≡ length beside → SameBelow row beside (length row)
        → (i j : ℕ) → j < y + 1 → pixel_at table i j ≡ pixel_at other i j
    one_more_row_same wide same i =
        let rows = same_by_slice_get row beside wide same in
        below_more (λ j. pixel_at table i j ≡ pixel_at other i j) y (above i)
        (pixel_here i ∙ ap (λ r. slice_get r i) rows ∙ sym (pixel_beside i))

  module _ (x i width : ℕ) (across : i < width) where
    pixel_of_part : (row : Option (List T)) → option_and_then (λ r. slice_get r i)
        (option_map (λ r. take width (drop x r)) row) ≡
        option_and_then (λ r. slice_get r (x + i)) row
    pixel_of_part None = refl
    pixel_of_part (Some row) = slice_get-take width (drop x row) i across ∙ slice_get-drop x row i

  -- The pixels of a rectangle are pixels of the table, counted from the corner of the rectangle.
  pub rectangle_holds : (rows : Table T) (x y width height : ℕ) → HoldsPixelsFrom rows x y width height
      (rectangle x y width height rows)
  rectangle_holds rows x y width height = λ i j across down.
      let cut : List T → List T = λ row. take width (drop x row) in
      let below = drop y rows in
      let row_is = slice_get-take height below j down ∙ slice_get-drop y rows j in
      ap (option_and_then (λ r. slice_get r i)) (slice_get-map cut (take height below) j)
      ∙ pixel_of_part x i width across (slice_get (take height below) j)
      ∙ ap (option_and_then (λ r. slice_get r (x + i))) row_is
