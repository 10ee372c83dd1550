-- Loops that write the items of a list, or the rows of a table in a buffer, one after the other.
use Rattle.std.proofs.Common.{ℕ, suc, ◌≡◌, ◌+◌, ◌*◌, ◌<◌, List, [], ◌∷◌, length, map, Some, slice_get}
use Rattle.std.proofs.Common.{Option, None, option_and_then, refl, ◌∙◌, ap, arith}
use Rattle.std.proofs.Math.ListN.{set}
use Rattle.v_frame.specs.Prelude.{Table, strided_rows, KeepsRest, RowsFit}
use Rattle.v_frame_raster.proofs.tables.Lists.{others_are_read, set_is_read}
use Rattle.v_frame_raster.proofs.tables.Strides.{height_of_rows}
use Rattle.v_frame_raster.proofs.tables.StridedWrites.{row_put, rest_put, rest_kept, rest_same}
use Rattle.v_frame_convert.specs.Convert.{GivesPixels}
use Rattle.v_frame_convert.specs.Rows.{GivesItems}
use borrow.Author.Count.{below_more}
use borrow.Rule.Slice.PartMut.{put_mid}

-- Each item below index `i` satisfies the relation `made`.
pub record MadeBelow {Y : Type 0} (made : ℕ → Y → Type 0) (now : List Y) (i : ℕ) : Type 0 where
  pub each : (k : ℕ) → k < i → (q : Y) × made k q × (slice_get now k ≡ Some q)

module _ {Y : Type 0} (made : ℕ → Y → Type 0) where
  pub none_made : (now : List Y) → MadeBelow made now 0
  none_made now = record { each = λ k h. absurd (omega arith) }

  pub one_more_made : (now : List Y) (i : ℕ) (q : Y) → MadeBelow made now i → i < length now → made i q
      → MadeBelow made (set now i q) (i + 1)
  one_more_made now i q so_far within becomes = record {
    each =
        below_more (λ k. (r : Y) × made k r × (slice_get (set now i q) k ≡ Some r)) i
        (λ k h. let r = so_far.each k h in (r.0, r.1, others_are_read now i k q (omega arith) ∙ r.2))
        (q, becomes, set_is_read now i q within);
  }

-- `gives p q` holds for the item `p` of `source` at index `k`.
abbrev pub GivenAt : {X Y : Type 0} → (X → Y → Type 0) → List X → ℕ → Y → Type 0
GivenAt {X} gives source k q = (p : X) → slice_get source k ≡ Some p → gives p q

-- Each row below row `y` satisfies the relation `made`, and everything else in the buffer is unchanged.
pub record RowsMadeBelow {T : Type 0} (made : ℕ → List T → Type 0) (width height stride : ℕ) (old now : List T)
    (y : ℕ) : Type 0 where
  pub rows : MadeBelow made (strided_rows width height stride now) y
  pub rest : KeepsRest width height stride old now

module _ {T : Type 0} (made : ℕ → List T → Type 0) (width height stride : ℕ) (old : List T) where
  pub no_row_made : RowsMadeBelow made width height stride old old 0
  no_row_made = record {
    rows = none_made made (strided_rows width height stride old);
    rest = rest_same width height stride old;
  }

  pub one_more_row_made : (now row : List T) (y : ℕ) → RowsFit width height stride (length now) → y < height
      → length row ≡ width → made y row → RowsMadeBelow made width height stride old now y
      → RowsMadeBelow made width height stride old (put_mid (stride * y) width now row) (y + 1)
  one_more_row_made now row y fit high long becomes so_far = record {
    rows =
        rw (row_put width height stride now row y fit high long)
        (one_more_made made (strided_rows width height stride now) y row so_far.rows
        (omega (arith, height_of_rows width height stride now)) becomes);
    rest = rest_kept width height stride old now _ so_far.rest (rest_put width height stride now row y fit high long);
  }

-- The row that contains a pixel of a table.
found_row : {T : Type 0} (x : ℕ) (p : T) (o : Option (List T)) → option_and_then (λ row. slice_get row x) o ≡ Some p
    → (row : List T) × (o ≡ Some row) × (slice_get row x ≡ Some p)
found_row x p None h = absurd (let no : None ≡ Some p = h in cc)
found_row x p (Some row) h = (row, refl, h)

module _ {X Y : Type 0} (gives : X → Y → Type 0) where
  pub all_given : (source : List X) (now : List Y) (i : ℕ) → MadeBelow (GivenAt gives source) now i
      → length now ≡ length source → ((k : ℕ) (p : X) → slice_get source k ≡ Some p → k < i)
      → GivesItems gives source now
  all_given source now i so_far count within = record {
    count = count;
    at = λ k p is. let q = so_far.each k (within k p is) in (q.0, q.1 p is, q.2);
  }

  -- If the results are the results of a function, the target is `map` of this function over the source.
  pub gives_whole : (g : X → Y) → ((p : X) (q : Y) → gives p q → q ≡ g p) → (source : List X) (target : List Y)
      → GivesItems gives source target → target ≡ map g source
  gives_whole g is [] [] given = refl
  gives_whole g is [] (q ∷ target) given = absurd (omega (arith, given.count))
  gives_whole g is (p ∷ source) [] given = absurd (omega (arith, given.count))
  gives_whole g is (p ∷ source) (q ∷ target) given =
      let first = given.at 0 p refl in
      let found : Some q ≡ Some first.0 = first.2 in
      let same : first.0 ≡ g p = is p first.0 first.1 in
      let rest : target ≡ map g source = gives_whole g is source target
      (record { count = omega (arith, given.count); at = λ k item h. given.at (suc k) item h }) in
      cc

  pub gives_pixels : (source : Table X) (target : Table Y) → GivesItems (GivesItems gives) source target
      → GivesPixels gives source target
  gives_pixels source target given = λ x y p h.
      let row = found_row x p (slice_get source y) h in
      let made = given.at y row.0 row.1 in
      let pixel = made.1.at x p row.2 in
      (pixel.0, pixel.1, ap (option_and_then (λ r. slice_get r x)) made.2 ∙ pixel.2)
