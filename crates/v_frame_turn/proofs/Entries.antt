-- A pixel written into the rows of a buffer: this pixel has its final value, all other pixels are unchanged, and final
-- values stay.
use Rattle.std.proofs.Common.{ℕ, ◌≡◌, ◌≢◌, ◌+◌, ◌*◌, ◌<◌, ◌≤◌, List, length, take, drop, Option, Some, slice_get}
use Rattle.std.proofs.Common.{slice_set, inl, inr}
use Rattle.std.proofs.Common.{Bool, option_and_then, sym, ◌∙◌, ap, arith, length-set, length-take-le, length-drop}
use Rattle.std.proofs.lemmas.Bool.{cases_eq, cases_lt}
use Rattle.v_frame.specs.Prelude.{Table, height_of, pixel_at, strided_rows, width_of, KeepsRest, RowsFit}
use Rattle.v_frame_raster.proofs.tables.Lists.{set_in_part, set_is_read, others_are_read}
use Rattle.v_frame_raster.proofs.tables.Strides.{height_of_rows, strided_row}
use Rattle.v_frame_raster.proofs.tables.StridedWrites.{row_ends, row_put, rest_put, rest_kept, rest_same}
use Rattle.v_frame_turn.specs.Turning.{index_from, turned_pixel, ColumnIsRight, KeepsRight}
use borrow.Rule.Slice.PartMut.{put_mid}

-- The index of a pixel is inside the list.
pub entry_within : (w h s entries x y : ℕ) → RowsFit w h s entries → x < w → y < h → s * y + x < entries
entry_within w h s entries x y fit across high = omega (arith, row_ends w h s entries y fit high)

module _ {T : Type 0} (w h s : ℕ) (xs : List T) (x y : ℕ) (p : T) (fit : RowsFit w h s (length xs)) (across : x < w)
    (high : y < h) where
  abbrev part : List T
  part = take w (drop (s * y) xs)

  abbrev row : List T
  row = slice_set part x p

  abbrev old : Table T
  old = strided_rows w h s xs

  abbrev new : Table T
  new = strided_rows w h s (slice_set xs (s * y + x) p)

  ends : s * y + w ≤ length xs
  ends = row_ends w h s (length xs) y fit high

  wide : length part ≡ w
  wide = length-take-le w (drop (s * y) xs) (omega (arith, length-drop (s * y) xs, ends))

  long : length row ≡ w
  long = length-set part x p ∙ wide

  is_put : slice_set xs (s * y + x) p ≡ put_mid (s * y) w xs row
  is_put = set_in_part xs (s * y) w x p across ends

  table_is : new ≡ slice_set old y row
  table_is = ap (strided_rows w h s) is_put ∙ row_put w h s xs row y fit high long

  row_is : slice_get new y ≡ Some row
  row_is = ap (λ rows. slice_get rows y) table_is
      ∙ set_is_read old y row (omega (arith, high, height_of_rows w h s xs))

  pub rest_entry : KeepsRest w h s xs (slice_set xs (s * y + x) p)
  rest_entry = rw is_put (rest_put w h s xs row y fit high long)

  pub pixel_written : pixel_at new x y ≡ Some p
  pixel_written = ap (option_and_then (λ r. slice_get r x)) row_is ∙ set_is_read part x p (omega (arith, wide))

  other_row : (i j : ℕ) → j ≢ y → pixel_at new i j ≡ pixel_at old i j
  other_row i j apart =
      ap (option_and_then (λ r. slice_get r i))
      (ap (λ rows. slice_get rows j) table_is ∙ others_are_read old y j row apart)

  other_column : (i : ℕ) → i ≢ x → pixel_at new i y ≡ pixel_at old i y
  other_column i apart =
      ap (option_and_then (λ r. slice_get r i)) row_is ∙ others_are_read part x i p apart
      ∙ sym (ap (option_and_then (λ r. slice_get r i)) (strided_row w h s xs y fit.apart high))

  pub stays_right : (right : ℕ → ℕ → Option T) → right x y ≡ Some p → KeepsRight right old new
  stays_right right is = λ i j was. elim (cases_eq j y) [
    | inl same_row ↦ rw same_row (elim (cases_eq i x) [
      | inl same ↦ rw same (pixel_written ∙ sym is)
      | inr apart ↦ other_column i apart ∙ (rw same_row at was)
    ])
    | inr apart ↦ other_row i j apart ∙ was
  ]

-- Two columns have their final values in the rows from `from` to below `y`. Final values stay, and everything else is
-- unchanged.
pub record ColumnsRight {T : Type 0} (right : ℕ → ℕ → Option T) (w h s : ℕ) (old now : List T) (x next from y : ℕ)
    : Type 0 where
  pub column : ColumnIsRight right (strided_rows w h s now) x from y
  pub next_column : ColumnIsRight right (strided_rows w h s now) next from y
  pub kept : KeepsRight right (strided_rows w h s old) (strided_rows w h s now)
  pub rest : KeepsRest w h s old now

module _ {T : Type 0} (right : ℕ → ℕ → Option T) (w h s : ℕ) where
  pub none_right : (xs : List T) (x next from : ℕ) → ColumnsRight right w h s xs xs x next from from
  none_right xs x next from = record {
    column = λ y low high. absurd (omega arith);
    next_column = λ y low high. absurd (omega arith);
    kept = λ i j is. is;
    rest = rest_same w h s xs;
  }

  -- The loop step: one more row.
  pub one_more_right : (old xs : List T) (x next from y : ℕ) (p q : T) → RowsFit w h s (length old) → length xs
      ≡ length old → x < w → next < w → y < h → right x y ≡ Some p → right next y ≡ Some q
      → ColumnsRight right w h s old xs x next from y
      → ColumnsRight right w h s old (slice_set (slice_set xs (s * y + x) p) (s * y + next) q) x next from (y + 1)
  one_more_right old xs x next from y p q fit same across next_across high is is_next so_far =
      let first = slice_set xs (s * y + x) p in
      let fits : RowsFit w h s (length xs) = rw same fit in
      let fits' : RowsFit w h s (length first) = rw (length-set xs (s * y + x) p) fits in
      let step = stays_right w h s xs x y p fits across high right is in
      let step' = stays_right w h s first next y q fits' next_across high right is_next in
      record {
        column = λ j low below. step' x j (elim (cases_lt j y) [
          | inl above ↦ step x j (so_far.column j low above)
          | inr here ↦
              let same_row : j ≡ y = omega arith in
              rw same_row (pixel_written w h s xs x y p fits across high ∙ sym is)
        ]);
        next_column = λ j low below. elim (cases_lt j y) [
          | inl above ↦ step' next j (step next j (so_far.next_column j low above))
          | inr here ↦
              let same_row : j ≡ y = omega arith in
              rw same_row (pixel_written w h s first next y q fits' next_across high ∙ sym is_next)
        ];
        kept = λ i j was. step' i j (step i j (so_far.kept i j was));
        rest =
            rest_kept w h s old first _ (rest_kept w h s old xs first so_far.rest
            (rest_entry w h s xs x y p fits across high))
            (rest_entry w h s first next y q fits' next_across high);
      }

-- The pixel that is read from the source at the counted indexes is the pixel of the transformed table.
pub read_turned : {T : Type 0} (source : Table T) (w h : ℕ) (from_right from_bottom : Bool) (x y at column : ℕ)
    (row : List T) (p : T) → height_of source ≡ w → width_of source ≡ h → at ≡ index_from from_bottom w x → column
    ≡ index_from from_right h y → slice_get source at ≡ Some row → slice_get row column ≡ Some p
    → turned_pixel from_right from_bottom source x y ≡ Some p
read_turned source w h from_right from_bottom x y at column row p wide high at_is column_is row_is is =
    rw (wide, high, ← at_is, ← column_is) (ap (option_and_then (λ r. slice_get r column)) row_is ∙ is)
