-- The loop steps of a histogram: one more item, and one more row.
use Rattle.std.proofs.Common.{ℕ, ◌≡◌, ◌+◌, ◌<◌, List, length, take, get_or, set, cond, nat_eq, arith, ap}
use Rattle.std.proofs.Common.{get_or-set_same, get_or-set_other, length-set}
use Rattle.std.proofs.lemmas.List.Sums.{sum_by_more, count_by-le-length}
use Rattle.std.proofs.Common.{◌≤◌, ◌*◌, ◌^◌, drop, Some, slice_get}
use Rattle.std.proofs.Math.Nat.{mul-le-mul_right}
use Rattle.v_frame.specs.Prelude.{Table, row_major, width_of}
use Rattle.v_frame_statistics.specs.Histogram.{CountsMore, occurrences}
use Rattle.v_frame_statistics.proofs.ListSums.{sum_by-row, sum_by-four_rows}

counted : (old new xs ys : List ℕ) (p v : ℕ) → get_or new v 0 ≡ get_or old v 0 + occurrences v xs
    → occurrences v ys ≡ occurrences v xs + cond (nat_eq p v) 1 0 → p < length new
    → get_or (set new p (get_or new p 0 + 1)) v 0 ≡ get_or old v 0 + occurrences v ys
counted old new xs ys p v is more small =
    grind (arith, get_or-set_same new p (get_or new p 0 + 1) 0, get_or-set_other)

-- For each value below `size`: its count above row `y` plus its count in the remaining rows is the whole count, which
-- is at most the number of pixels.
pub record CountedAbove (size : ℕ) (rows : Table ℕ) (y : ℕ) (count : ℕ → ℕ) : Type 0 where
  pub so_far : (v : ℕ) → v < size → count v + occurrences v (row_major (drop y rows)) ≡ occurrences v (row_major rows)
  pub bound : (v : ℕ) → v < size → count v ≤ y * width_of rows

-- A value that has an entry is counted once more.
pub one_more_counted : (size : ℕ) (old new after xs : List ℕ) (x : ℕ) → CountsMore size (take x xs) old new
    → x < length xs → after ≡ set new (get_or xs x 0) (get_or new (get_or xs x 0) 0 + 1) → length after ≡ size
    → get_or xs x 0 < size → CountsMore size (take (x + 1) xs) old after
one_more_counted size old new after xs x so_far h is long small =
    let p = get_or xs x 0 in
    let fits : p < length new =
    omega (arith, long, small, ap length is, length-set new p (get_or new p 0 + 1)) in
    rw is (λ v below. counted old new (take x xs) (take (x + 1) xs) p v (so_far v below)
    (sum_by_more (λ q. cond (nat_eq q v) 1 0) xs x 0 h) fits)

-- No entry overflows with one more row.
pub row_fits : (size : ℕ) (rows : Table ℕ) (y : ℕ) (before : ℕ → ℕ) → CountedAbove size rows y before
    → (height : ℕ) → y < height → height * width_of rows < 2 ^ 64
    → (v : ℕ) → v < size → before v + width_of rows < 2 ^ 64
row_fits size rows y before counted_above height high countable =
    λ v below.
    let next : (y + 1) * width_of rows ≡ y * width_of rows + width_of rows = omega arith in
    let most : (y + 1) * width_of rows ≤ height * width_of rows = mul-le-mul_right (width_of rows) (omega arith) in
    omega (arith, next, counted_above.bound v below, most, countable)

module _ (size : ℕ) (rows : Table ℕ) (y : ℕ) (before after : ℕ → ℕ)
    (counted_above : CountedAbove size rows y before) where
  -- The loop step: one more row.
  pub row_counted : (row : List ℕ) → slice_get rows y ≡ Some row → length row ≡ width_of rows
      → ((v : ℕ) → v < size → after v ≡ before v + occurrences v row) → CountedAbove size rows (y + 1) after
  row_counted row is wide more = record {
    so_far = λ v below. omega (
      arith,
      more v below,
      counted_above.so_far v below,
      sum_by-row (λ q. cond (nat_eq q v) 1 0) rows y row is,
    );
    bound = λ v below.
        let next : (y + 1) * width_of rows ≡ y * width_of rows + width_of rows = omega arith in
        omega (arith, next, more v below, wide, counted_above.bound v below, count_by-le-length (λ q. nat_eq q v) row);
  }

  -- Four more rows.
  pub four_rows_counted : (a b c d : List ℕ) → slice_get rows y ≡ Some a → slice_get rows (y + 1) ≡ Some b
      → slice_get rows (y + 2) ≡ Some c → slice_get rows (y + 3) ≡ Some d → length a ≡ width_of rows
      → length b ≡ width_of rows → length c ≡ width_of rows → length d ≡ width_of rows
      → ((v : ℕ) → v < size
      → after v ≡ before v + occurrences v a + occurrences v b + (occurrences v c + occurrences v d))
      → CountedAbove size rows (y + 4) after
  four_rows_counted a b c d first second third fourth wide_a wide_b wide_c wide_d more = record {
    so_far = λ v below. omega (
      arith,
      more v below,
      counted_above.so_far v below,
      sum_by-four_rows (λ q. cond (nat_eq q v) 1 0) rows y a b c d first second third fourth,
    );
    bound = λ v below.
        let test = λ (q : ℕ). nat_eq q v in
        let next : (y + 4) * width_of rows
        ≡ y * width_of rows + width_of rows + width_of rows + (width_of rows + width_of rows) = omega arith in
        omega (
          arith,
          next,
          more v below,
          wide_a,
          wide_b,
          wide_c,
          wide_d,
          counted_above.bound v below,
          count_by-le-length test a,
          count_by-le-length test b,
          count_by-le-length test c,
          count_by-le-length test d,
        );
  }
