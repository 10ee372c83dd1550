-- A row that is written among rows with a stride replaces this row of their table, and everything else is unchanged.
use Rattle.std.proofs.Common.{ℕ, ◌≡◌, ◌≢◌, ◌+◌, ◌-◌, ◌*◌, ◌<◌, ◌≤◌, List, ◌++◌, length, take, drop, Some, slice_get}
use Rattle.std.proofs.Common.{slice_set, inl, inr, refl, sym, ◌∙◌, ap, arith, length-take-le, length-drop}
use Rattle.std.proofs.Common.{length-append, append-nil}
use Rattle.std.proofs.Math.Nat.{mul-le-mul_right}
use Rattle.std.proofs.lemmas.Bool.{cases_lt}
use Rattle.std.proofs.lemmas.List.{take_at, drop_at, take_all, drop_all, length-set}
use Rattle.v_frame_raster.specs.Table.{Table}
use Rattle.v_frame_raster.specs.StridedRows.{strided_rows, KeepsRest, RowsFit}
use Rattle.v_frame_raster.proofs.tables.Lists.{same_by_slice_get}
use Rattle.v_frame_raster.proofs.tables.Entries.{same_front}
use Rattle.v_frame_raster.proofs.tables.Lists.{one_more, set_is_read, others_are_read, slice_get-drop}
use Rattle.v_frame_raster.proofs.tables.Parts.{part_before, part_behind}
use Rattle.v_frame_raster.proofs.tables.Strides.{height_of_rows, strided_row}
use borrow.Rule.Slice.PartMut.{put_mid}

-- A row ends within the list.
pub row_ends : (width height stride entries y : ℕ) → RowsFit width height stride entries → y < height → stride * y +
    width ≤ entries
row_ends width height stride entries y fit high =
    let low : y ≤ height - 1 = omega arith in
    omega (arith, mul-le-mul_right stride low, fit.within)

-- A row ends before the rows below it.
rows_apart : (width stride y k : ℕ) → width ≤ stride → y < k → stride * y + width ≤ stride * k
rows_apart width stride y k apart below =
    let low : y + 1 ≤ k = omega arith in
    omega (arith, mul-le-mul_right stride low)

module _ {T : Type 0} (width height stride : ℕ) (xs row : List T) (y : ℕ)
    (fit : RowsFit width height stride (length xs)) (high : y < height)
    (long : length row ≡ width) where
  abbrev start : ℕ
  start = stride * y

  abbrev pub put : List T
  put = put_mid start width xs row

  ends : start + width ≤ length xs
  ends = row_ends width height stride (length xs) y fit high

  pub length-row_put : length put ≡ length xs
  length-row_put = simp (length-append, length-take-le start xs (omega (arith, ends)), length-drop)
      (omega (arith, ends, long))

  as_many : length row ≡ length (take (start + width - start) (drop start xs))
  as_many = long ∙ sym (length-take-le (start + width - start) (drop start xs)
      (omega (arith, length-drop start xs, ends)) ∙ omega arith)

  cut : start + width - start ≡ width
  cut = omega arith

  before : (i : ℕ) → i < start → slice_get put i ≡ slice_get xs i
  before i h = rw cut at (part_before xs row start (start + width) (omega arith) ends as_many i h)

  behind : (i : ℕ) → start + width ≤ i → slice_get put i ≡ slice_get xs i
  behind i h = rw cut at (part_behind xs row start (start + width) (omega arith) ends as_many i h)

  -- Everything except the row is unchanged.
  pub rest_put : KeepsRest width height stride xs put
  rest_put = record {
    count = length-row_put;
    others = λ i outside. elim (cases_lt i start) [
      | inl above ↦ before i above
      | inr from ↦ elim (cases_lt i (start + width)) [
        | inl here ↦ absurd (outside (i - start) y (omega arith) high (omega arith))
        | inr past ↦ behind i (omega arith)
      ]
    ];
  }

  row_is_put : take width (drop start put) ≡ row
  row_is_put =
      let front : length (take start xs) ≡ start = length-take-le start xs (omega (arith, ends)) in
      rw (drop_at (take start xs) _ start front) (take_at row _ width long)

  other_row : (k : ℕ) → k < height → k ≢ y → take width (drop (stride * k) put) ≡ take width (drop (stride * k) xs)
  other_row k low apart = same_front width (drop (stride * k) put) (drop (stride * k) xs) (λ i across.
      slice_get-drop (stride * k) put i ∙ elim (cases_lt k y) [
        | inl above ↦ before (stride * k + i) (omega (arith, rows_apart width stride k y fit.apart above))
        | inr not_above ↦ behind (stride * k + i) (omega (arith, rows_apart width stride y k fit.apart (omega arith)))
      ] ∙ sym (slice_get-drop (stride * k) xs i))

  -- The new row replaces the old one.
  pub row_put : strided_rows width height stride put ≡ slice_set (strided_rows width height stride xs) y row
  row_put =
      let old = strided_rows width height stride xs in
      let now = strided_rows width height stride put in
      let count : length now ≡ height = height_of_rows width height stride put in
      let old_count : length old ≡ height = height_of_rows width height stride xs in
      same_by_slice_get now (slice_set old y row) (count ∙ sym (length-set old y row ∙ old_count)) (λ k h.
      let low : k < height = omega (arith, h, count) in
      strided_row width height stride put k fit.apart low ∙ elim (cases_lt k y) [
        | inl above ↦ ap Some (other_row k low (omega arith)) ∙ sym (others_are_read old y k row (omega arith)
            ∙ strided_row width height stride xs k fit.apart low)
        | inr not_above ↦ elim (cases_lt y k) [
          | inl below ↦ ap Some (other_row k low (omega arith)) ∙ sym (others_are_read old y k row (omega arith)
              ∙ strided_row width height stride xs k fit.apart low)
          | inr not_below ↦
              let same : k ≡ y = omega arith in
              rw (same, row_is_put) (sym (set_is_read old y row (omega (arith, old_count, high))))
        ]
      ])

-- Entries that are kept twice are kept.
pub rest_kept : {T : Type 0} (width height stride : ℕ) (xs ys zs : List T) → KeepsRest width height stride xs ys →
    KeepsRest width height stride ys zs
    → KeepsRest width height stride xs zs
rest_kept width height stride xs ys zs first second = record {
  count = second.count ∙ first.count;
  others = λ i outside. second.others i outside ∙ first.others i outside;
}

pub rest_same : {T : Type 0} (width height stride : ℕ) (xs : List T) → KeepsRest width height stride xs xs
rest_same width height stride xs = record { count = refl; others = λ i outside. refl }

-- The rows of a table before row y are written, and everything else is unchanged.
pub record WrittenBelow {T : Type 0} (width height stride : ℕ) (rows : Table T) (old now : List T) (y : ℕ) : Type 0
  where
    pub table : strided_rows width height stride now ≡ take y rows ++ drop y (strided_rows width height stride old)
    pub rest : KeepsRest width height stride old now

module _ {T : Type 0} (width height stride : ℕ) (rows : Table T) (old : List T) where
  pub none_written : WrittenBelow width height stride rows old old 0
  none_written = record { table = refl; rest = rest_same width height stride old }

  -- One more row.
  pub one_more_written : (now row : List T) (y : ℕ) → RowsFit width height stride (length old) → y < height → length
      now ≡ length old
      → slice_get rows y ≡ Some row → length row ≡ width → WrittenBelow width height stride rows old now y
      → WrittenBelow width height stride rows old (put_mid (stride * y) width now row) (y + 1)
  one_more_written now row y fit high same made long so_far =
      let fits : RowsFit width height stride (length now) = rw same fit in
      record {
        table =
            row_put width height stride now row y fits high long ∙ rw so_far.table
            (one_more rows (strided_rows width height stride old) y row made
            (omega (arith, height_of_rows width height stride old)));
        rest = rest_kept width height stride old now _ so_far.rest
            (rest_put width height stride now row y fits high long);
      }

  -- After the last row, the table consists of all rows.
  pub all_written : (now : List T) (y : ℕ) → length rows ≡ height → height ≤ y → WrittenBelow width height stride rows
      old now y
      → strided_rows width height stride now ≡ rows
  all_written now y as_many end so_far =
      so_far.table ∙ rw (
        take_all y rows (omega arith),
        drop_all y (strided_rows width height stride old) (omega (arith, height_of_rows width height stride old)),
      ) (append-nil rows)
