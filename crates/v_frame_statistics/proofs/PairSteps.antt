-- Sums over pairs: the loop steps for one more pair, one more block of two lists, and one more row of two tables.
use Rattle.std.proofs.Common.{ℕ, ◌≡◌, ◌+◌, ◌-◌, ◌*◌, ◌/◌, ◌%◌, ◌<◌, ◌≤◌, List, length, take, drop, get_or, Some}
use Rattle.std.proofs.Common.{slice_get, arith}
use Rattle.std.specs.Prelude.{sum_by, zip}
use Rattle.std.proofs.lemmas.List.{drop_all}
use Rattle.v_frame.specs.Prelude.{Table, row_major, width_of, height_of}
use Rattle.v_frame_raster.proofs.SumsOfPairs.{sum_of_pairs-adds_up}
use Rattle.v_frame_statistics.proofs.ListSums.{sum_by-pair_more, zip-length, zip-piece}
use Rattle.v_frame_statistics.proofs.SumSteps.{SummedBefore, block_summed, rest_summed, all_summed}
use Rattle.v_frame_statistics.proofs.SumSteps.{HalvesSummedBefore, all_halves_summed}

module _ {X : Type 0} (f : X × X → ℕ) (most : ℕ) where
  module _ (xs ys : List X) (same : length ys ≡ length xs) where
    -- One more pair.
    pub pair_summed : (i sum : ℕ) (p q : X) (here : ℕ) → SummedBefore f most (zip xs ys) i sum → i < length xs
        → p ≡ get_or xs i p → q ≡ get_or ys i q → here ≡ f (p, q) → here ≤ most
        → SummedBefore f most (zip xs ys) (i + 1) (sum + here)
    pair_summed i sum p q here before h first second is few = record {
      so_far = omega (arith, before.so_far, is, sum_by-pair_more f xs ys i p q same h first second);
      bound = let next : most * (i + 1) ≡ most * i + most = omega arith in omega (arith, next, before.bound, few);
    }

    pub all_pairs_summed : (n sum : ℕ) → SummedBefore f most (zip xs ys) n sum → length xs ≤ n
        → sum ≡ sum_by f (zip xs ys)
    all_pairs_summed n sum before h =
        all_summed f most (zip xs ys) n sum before (omega (arith, zip-length xs ys same))

    -- One more pair, with the low and the high halves summed separately.
    pub pair_halves_summed : (i low high : ℕ) (p q : X) (here low_here high_here : ℕ)
        → HalvesSummedBefore f (zip xs ys) i low high → i < length xs → p ≡ get_or xs i p → q ≡ get_or ys i q
        → here ≡ f (p, q) → here < 4294967296 → low_here ≡ here % 65536 → high_here ≡ here / 65536
        → HalvesSummedBefore f (zip xs ys) (i + 1) (low + low_here) (high + high_here)
    pair_halves_summed i low high p q here low_here high_here before h first second is few low_is high_is =
        let next : 65535 * (i + 1) ≡ 65535 * i + 65535 = omega arith in
        let both : low_here + 65536 * high_here ≡ here = omega (arith, low_is, high_is) in
        record {
          so_far = omega (arith, before.so_far, both, is, sum_by-pair_more f xs ys i p q same h first second);
          low_bound = omega (arith, next, before.low_bound, low_is);
          high_bound = omega (arith, next, before.high_bound, high_is, few);
        }

    pub all_pair_halves_summed : (n low high : ℕ) → HalvesSummedBefore f (zip xs ys) n low high → length xs ≤ n
        → low + 65536 * high ≡ sum_by f (zip xs ys)
    all_pair_halves_summed n low high before h =
        all_halves_summed f (zip xs ys) n low high before (omega (arith, zip-length xs ys same))

    -- One more block.
    pub pair_block_summed : (n k sum block : ℕ) → SummedBefore f most (zip xs ys) (n * k) sum
        → block ≡ sum_by f (zip (take n (drop (n * k) xs)) (take n (drop (n * k) ys))) → block ≤ most * n
        → SummedBefore f most (zip xs ys) (n * (k + 1)) (sum + block)
    pair_block_summed n k sum block before is few =
        block_summed f most (zip xs ys) n k sum block before (rw (zip-piece (n * k) n xs ys) at is) few

    pub pair_rest_summed : (n sum rest : ℕ) → SummedBefore f most (zip xs ys) n sum
        → rest ≡ sum_by f (zip (take (length xs - n) (drop n xs)) (take (length ys - n) (drop n ys)))
        → sum + rest ≡ sum_by f (zip xs ys)
    pair_rest_summed n sum rest before is =
        rest_summed f most (zip xs ys) n sum rest before
        (rw (zip-length xs ys same) (rw (same, zip-piece n (length xs - n) xs ys) at is))

  -- The sum of the pairs above row `y` plus the sum of the remaining pairs is the whole sum.
  pub record PairsSummedAbove (table other : Table X) (y sum : ℕ) : Type 0 where
    pub so_far : sum + sum_by f (zip (row_major (drop y table)) (row_major (drop y other)))
        ≡ sum_by f (zip (row_major table) (row_major other))
    pub bound : sum ≤ most * (y * width_of table)

  -- The loop step: one more row.
  pub row_pairs_summed : (table other : Table X) (y sum : ℕ) (row row1 : List X) (here : ℕ)
      → PairsSummedAbove table other y sum → slice_get table y ≡ Some row → slice_get other y ≡ Some row1
      → length row ≡ length row1 → length row ≡ width_of table → here ≡ sum_by f (zip row row1)
      → here ≤ most * length row
      → PairsSummedAbove table other (y + 1) (sum + here)
  row_pairs_summed table other y sum row row1 here above is is1 same wide value few = record {
    so_far = omega (
      arith,
      above.so_far,
      value,
      (sum_of_pairs-adds_up f).by_rows table other y row row1 is is1 same,
    );
    bound =
        let width = width_of table in
        let next : most * ((y + 1) * width) ≡ most * (y * width) + most * width = omega arith in
        omega (arith, next, above.bound, rw wide at few);
  }

  pub all_row_pairs_summed : (table other : Table X) (y sum : ℕ) → PairsSummedAbove table other y sum
      → height_of table ≤ y → sum ≡ sum_by f (zip (row_major table) (row_major other))
  all_row_pairs_summed table other y sum above h =
      omega (arith, rw (drop_all y table h) at above.so_far)
