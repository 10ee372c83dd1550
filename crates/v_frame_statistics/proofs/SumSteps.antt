-- Sums: the loop steps for one more block of a list and one more row of a table.
use Rattle.std.proofs.Common.{ℕ, ◌≡◌, ◌+◌, ◌-◌, ◌*◌, ◌/◌, ◌%◌, ◌≤◌, List, [], ◌∷◌, length, take, drop, Some}
use Rattle.std.proofs.Common.{slice_get, All}
use Rattle.std.proofs.Common.{arith, mul-suc, suc, length-append}
use Rattle.std.proofs.Common.{◌<◌, get_or}
use Rattle.std.specs.Prelude.{sum_by}
use Rattle.std.proofs.lemmas.List.{take_all, drop_all}
use Rattle.std.proofs.lemmas.List.Sums.{sum_by_more}
use Rattle.v_frame.specs.Prelude.{Table, row_major, width_of, height_of}
use Rattle.v_frame_statistics.proofs.ListSums.{sum_by-piece, sum_by-rest, sum_by-row}

-- The number of pixels of a table whose rows have the same width.
pub pixels_of_rows : {T : Type 0} (width : ℕ) (table : Table T) → All (λ row. length row ≡ width) table
    → length (row_major table) ≡ height_of table * width
pixels_of_rows width [] wide = omega arith
pixels_of_rows width (row ∷ table) wide =
    let next : suc (length table) * width ≡ length table * width + width = omega arith in
    omega (
      arith,
      next,
      length-append row (row_major table),
      wide 0 row (omega arith),
      pixels_of_rows width table (λ k d h. wide (suc k) d (omega arith)),
    )

module _ {X : Type 0} (f : X → ℕ) (most : ℕ) where
  -- `sum` is the sum over the first `n` items, and no item adds more than its bound.
  pub record SummedBefore (xs : List X) (n sum : ℕ) : Type 0 where
    pub so_far : sum ≡ sum_by f (take n xs)
    pub bound : sum ≤ most * n

  -- One more block of `n` items.
  pub block_summed : (xs : List X) (n k sum block : ℕ) → SummedBefore xs (n * k) sum
      → block ≡ sum_by f (take n (drop (n * k) xs)) → block ≤ most * n → SummedBefore xs (n * (k + 1)) (sum + block)
  block_summed xs n k sum block before is few = record {
    so_far = omega (arith, before.so_far, is, sum_by-piece f xs n k);
    bound =
        let next : n * (k + 1) ≡ n * k + n = omega (arith, mul-suc n k) in
        let both : most * (n * k + n) ≡ most * (n * k) + most * n = omega arith in
        rw next (omega (arith, both, before.bound, few));
  }

  -- The rest of the list.
  pub rest_summed : (xs : List X) (n sum rest : ℕ) → SummedBefore xs n sum
      → rest ≡ sum_by f (take (length xs - n) (drop n xs)) → sum + rest ≡ sum_by f xs
  rest_summed xs n sum rest before is = omega (arith, before.so_far, is, sum_by-rest f xs n)

  -- The sum of the rows above row `y` plus the sum of the remaining rows is the whole sum.
  pub record SummedAbove (table : Table X) (y sum : ℕ) : Type 0 where
    pub so_far : sum + sum_by f (row_major (drop y table)) ≡ sum_by f (row_major table)
    pub bound : sum ≤ most * (y * width_of table)

  -- The loop step: one more row.
  pub row_summed : (table : Table X) (y sum : ℕ) (row : List X) (here : ℕ) → SummedAbove table y sum
      → slice_get table y ≡ Some row → length row ≡ width_of table → here ≡ sum_by f row → here ≤ most * length row
      → SummedAbove table (y + 1) (sum + here)
  row_summed table y sum row here above is wide value few = record {
    so_far = omega (arith, above.so_far, value, sum_by-row f table y row is);
    bound =
        let width = width_of table in
        let next : most * ((y + 1) * width) ≡ most * (y * width) + most * width = omega arith in
        omega (arith, next, above.bound, rw wide at few);
  }

  -- The first row.
  pub first_row_summed : (table : Table X) (row : List X) (here : ℕ) → slice_get table 0 ≡ Some row
      → length row ≡ width_of table → here ≡ sum_by f row → here ≤ most * length row → SummedAbove table 1 here
  first_row_summed table row here is wide value few = record {
    so_far = omega (arith, value, sum_by-row f table 0 row is);
    bound = omega (arith, rw wide at few);
  }

  -- One more item.
  pub item_summed : (xs : List X) (i sum : ℕ) (x : X) (here : ℕ) → SummedBefore xs i sum → i < length xs
      → x ≡ get_or xs i x → here ≡ f x → here ≤ most → SummedBefore xs (i + 1) (sum + here)
  item_summed xs i sum x here before h read is few = record {
    so_far = omega (arith, before.so_far, is, rw (← read) at (sum_by_more f xs i x h));
    bound = let next : most * (i + 1) ≡ most * i + most = omega arith in omega (arith, next, before.bound, few);
  }

  -- At the end of the list, the sum so far is the sum of the list.
  pub all_summed : (xs : List X) (n sum : ℕ) → SummedBefore xs n sum → length xs ≤ n → sum ≡ sum_by f xs
  all_summed xs n sum before h = rw (take_all n xs h) at before.so_far

  pub all_rows_summed : (table : Table X) (y sum : ℕ) → SummedAbove table y sum → height_of table ≤ y
      → sum ≡ sum_by f (row_major table)
  all_rows_summed table y sum above h = omega (arith, rw (drop_all y table h) at above.so_far)

module _ {X : Type 0} (f : X → ℕ) where
  -- `low` and `high` are the sums of the low and the high halves over the first `n` items.
  pub record HalvesSummedBefore (xs : List X) (n low high : ℕ) : Type 0 where
    pub so_far : low + 65536 * high ≡ sum_by f (take n xs)
    pub low_bound : low ≤ 65535 * n
    pub high_bound : high ≤ 65535 * n

  -- One more item.
  pub item_halves_summed : (xs : List X) (i low high : ℕ) (x : X) (here low_here high_here : ℕ)
      → HalvesSummedBefore xs i low high → i < length xs → x ≡ get_or xs i x → here ≡ f x → here < 4294967296
      → low_here ≡ here % 65536 → high_here ≡ here / 65536
      → HalvesSummedBefore xs (i + 1) (low + low_here) (high + high_here)
  item_halves_summed xs i low high x here low_here high_here before h read is few low_is high_is =
      let next : 65535 * (i + 1) ≡ 65535 * i + 65535 = omega arith in
      let both : low_here + 65536 * high_here ≡ here = omega (arith, low_is, high_is) in
      record {
        so_far = omega (arith, before.so_far, both, is, rw (← read) at (sum_by_more f xs i x h));
        low_bound = omega (arith, next, before.low_bound, low_is);
        high_bound = omega (arith, next, before.high_bound, high_is, few);
      }

  pub all_halves_summed : (xs : List X) (n low high : ℕ) → HalvesSummedBefore xs n low high → length xs ≤ n
      → low + 65536 * high ≡ sum_by f xs
  all_halves_summed xs n low high before h = rw (take_all n xs h) at before.so_far
