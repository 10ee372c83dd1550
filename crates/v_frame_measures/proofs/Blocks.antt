-- Sums over blocks of 4 by 4 pixels, computed from sums over columns, and sums over two blocks, one under the other.
use Rattle.std.proofs.Common.{ℕ, suc, ◌≡◌, ◌+◌, ◌-◌, ◌*◌, ◌≤◌, ◌<◌, All, List, [], ◌∷◌, ◌++◌, length, take, drop, get_or}
use Rattle.std.proofs.Common.{refl, ap, arith, map, sym, ◌∙◌, min}
use Rattle.std.proofs.lemmas.List.{map-append, drop-drop, length-take, length-take-le, length-drop, length-append, get_or-take, get_or-drop}
use Rattle.std.proofs.Math.Seq.{take-add}
use Rattle.v_frame_raster.proofs.tables.CutRows.{row_major-append}
use Rattle.v_frame.specs.Prelude.{Table, rectangle, row_major}
use Rattle.v_frame_measures.specs.declared.similarity.sums.PixelSums.{PixelSums}
use Rattle.v_frame_measures.specs.declared.similarity.columns.ColumnSums.{ColumnSums}
use Rattle.v_frame_measures.specs.PixelSums.{added, sums_of, sums_of_rectangle}
use Rattle.v_frame_measures.specs.ColumnSums.{AreColumnSums, block_of, sums_of_column}
use Rattle.v_frame_measures.proofs.Joined.{alike, sums_of-append}

module _ {T : Type 0} (value : T → ℕ) where
  abbrev columns : ℕ → ℕ → Table T → Table T
  columns x width rows = map (λ row. take width (drop x row)) rows

  abbrev Reach : ℕ → Table T → Type 0
  Reach right rows = (k : ℕ) → k < length rows → right ≤ length (get_or rows k [])

  abbrev of_columns : ℕ → ℕ → Table T → Table T → PixelSums
  of_columns x width a b = sums_of value (row_major (columns x width a)) (row_major (columns x width b))

  exchanged : (p q r s : PixelSums) → added (added p q) (added r s) ≡ added (added p r) (added q s)
  exchanged p q r s = alike _ _ _ _ _ _ _ _ (omega arith) (omega arith) (omega arith) (omega arith)

  long : (x width : ℕ) (row : List T) → x + width ≤ length row → length (take width (drop x row)) ≡ width
  long x width row wide = length-take-le width (drop x row) (omega (arith, length-drop x row, wide))

  -- Columns are the first columns and the remaining ones.
  columns_joined : (x u v : ℕ) (a b : Table T) → length a ≡ length b → Reach (x + u + v) a → Reach (x + u + v) b
      → of_columns x (u + v) a b ≡ added (of_columns x u a b) (of_columns (x + u) v a b)
  columns_joined x u v [] [] same wide wide1 = refl
  columns_joined x u v (row ∷ a) (row1 ∷ b) same wide wide1 =
      let here = wide 0 (omega arith) in let here1 = wide1 0 (omega arith) in
      let rest = columns_joined x u v a b (omega (arith, same)) (λ k h. wide (suc k) (omega (arith, h)))
      (λ k h. wide1 (suc k) (omega (arith, h))) in
      let of_row : ℕ → ℕ → PixelSums = λ at width. sums_of value (take width (drop at row)) (take width (drop at row1)) in
      let same_long : (at width : ℕ) → at + width ≤ x + u + v
      → length (take width (drop at row)) ≡ length (take width (drop at row1)) =
      λ at width reach.
      long at width row (omega (arith, here, reach)) ∙ sym (long at width row1 (omega (arith, here1, reach))) in
      let join : (at width : ℕ) → at + width ≤ x + u + v
      → of_columns at width (row ∷ a) (row1 ∷ b) ≡ added (of_row at width) (of_columns at width a b) =
      λ at width reach.
      sums_of-append value _ _ (row_major (columns at width a)) (row_major (columns at width b)) (same_long at width reach) in
      let cut : (r : List T) → take (u + v) (drop x r) ≡ take u (drop x r) ++ take v (drop (x + u) r) =
      λ r. take-add u v (drop x r) ∙ ap (λ tail. take u (drop x r) ++ take v tail) (drop-drop u x r) in
      let halves : of_row x (u + v) ≡ added (of_row x u) (of_row (x + u) v) =
      rw (cut row, cut row1)
      (sums_of-append value (take u (drop x row)) (take u (drop x row1)) (take v (drop (x + u) row))
      (take v (drop (x + u) row1)) (same_long x u (omega arith))) in
      join x (u + v) (omega arith)
      ∙ ap (λ s. added s (of_columns x (u + v) a b)) halves
      ∙ ap (added (added (of_row x u) (of_row (x + u) v))) rest
      ∙ exchanged (of_row x u) (of_row (x + u) v) (of_columns x u a b) (of_columns (x + u) v a b)
      ∙ sym (ap (added (of_columns x u (row ∷ a) (row1 ∷ b))) (join (x + u) v (omega arith))
      ∙ ap (λ s. added s (added (of_row (x + u) v) (of_columns (x + u) v a b))) (join x u (omega arith)))
  columns_joined x u v (row ∷ a) [] same wide wide1 = absurd (omega (arith, same))
  columns_joined x u v [] (row ∷ b) same wide wide1 = absurd (omega (arith, same))

  reaches : (right y n width : ℕ) (rows : Table T) → All (λ row. length row ≡ width) rows → right ≤ width
      → Reach right (take n (drop y rows))
  reaches right y n width rows wide h k within =
      let few = length-take n (drop y rows) in
      let below : y + k < length rows = omega (arith, within, few, length-drop y rows) in
      let less : k < n = omega (arith, within, few) in
      rw (get_or-take n (drop y rows) k [] less, get_or-drop y rows k []) (omega (arith, h, wide (y + k) [] below))

  same_height : (y n : ℕ) (a b : Table T) → length a ≡ length b → length (take n (drop y a)) ≡ length (take n (drop y b))
  same_height y n a b same =
      let count : (rows : Table T) → length (take n (drop y rows)) ≡ min n (length rows - y) =
      λ rows. length-take n (drop y rows) ∙ ap (min n) (length-drop y rows) in
      omega (arith, count a, count b, same)

  module _ (width width1 : ℕ) (a b : Table T) (wide : All (λ row. length row ≡ width) a)
      (wide1 : All (λ row. length row ≡ width1) b) (same : length a ≡ length b) where
    -- Four columns are four single columns.
    four_columns : (x y : ℕ) → x + 4 ≤ width → x + 4 ≤ width1
        → let p = take 4 (drop y a) in let q = take 4 (drop y b) in
        added (added (added (of_columns x 1 p q) (of_columns (x + 1) 1 p q)) (of_columns (x + 2) 1 p q))
        (of_columns (x + 3) 1 p q)
        ≡ of_columns x 4 p q
    four_columns x y h h1 =
        let p = take 4 (drop y a) in let q = take 4 (drop y b) in
        let join : (u : ℕ) → u + 1 ≤ 4
        → of_columns x (u + 1) p q ≡ added (of_columns x u p q) (of_columns (x + u) 1 p q) =
        λ u few.
        columns_joined x u 1 p q (same_height y 4 a b same) (reaches (x + u + 1) y 4 width a wide (omega arith))
        (reaches (x + u + 1) y 4 width1 b wide1 (omega arith)) in
        let two : of_columns x 2 p q ≡ added (of_columns x 1 p q) (of_columns (x + 1) 1 p q) = join 1 (omega arith) in
        let three : of_columns x 3 p q ≡ added (of_columns x 2 p q) (of_columns (x + 2) 1 p q) = join 2 (omega arith) in
        let four : of_columns x 4 p q ≡ added (of_columns x 3 p q) (of_columns (x + 3) 1 p q) = join 3 (omega arith) in
        sym (four ∙ ap (λ s. added s (of_columns (x + 3) 1 p q))
        (three ∙ ap (λ s. added s (of_columns (x + 2) 1 p q)) two))

    -- Four sums over adjacent columns are the sums over a block.
    pub block_is : (x y k : ℕ) (sums : ColumnSums) → k < 8 → x + 32 ≤ width → x + 32 ≤ width1
        → AreColumnSums value x (take 4 (drop y a)) (take 4 (drop y b)) sums
        → block_of sums k ≡ sums_of_rectangle value (x + 4 * k) y 4 4 a b
    block_is x y k sums few h h1 are =
        let p = take 4 (drop y a) in let q = take 4 (drop y b) in
        let column : ℕ → PixelSums = λ i. sums_of_column value (x + (4 * k + i)) p q in
        let zero : 4 * k < 32 = omega arith in
        let one : 4 * k + 1 < 32 = omega arith in
        let two : 4 * k + 2 < 32 = omega arith in
        let three : 4 * k + 3 < 32 = omega arith in
        let moved : (i : ℕ) → x + (4 * k + i) ≡ x + 4 * k + i = λ i. omega arith in
        let lanes : block_of sums k
        ≡ added (added (added (sums_of_column value (x + 4 * k) p q) (column 1)) (column 2)) (column 3) =
        alike _ _ _ _ _ _ _ _
        (omega (
          arith,
          are.first (4 * k) zero,
          are.first (4 * k + 1) one,
          are.first (4 * k + 2) two,
          are.first (4 * k + 3) three,
        ))
        (omega (
          arith,
          are.second (4 * k) zero,
          are.second (4 * k + 1) one,
          are.second (4 * k + 2) two,
          are.second (4 * k + 3) three,
        ))
        (omega (
          arith,
          are.squares (4 * k) zero,
          are.squares (4 * k + 1) one,
          are.squares (4 * k + 2) two,
          are.squares (4 * k + 3) three,
        ))
        (omega (
          arith,
          are.products (4 * k) zero,
          are.products (4 * k + 1) one,
          are.products (4 * k + 2) two,
          are.products (4 * k + 3) three,
        )) in
        (rw (moved 1, moved 2, moved 3) at lanes)
        ∙ four_columns (x + 4 * k) y (omega arith) (omega arith)

    columns_long : (x w : ℕ) (rows : Table T) → Reach (x + w) rows → length (row_major (columns x w rows)) ≡ w * length rows
    columns_long x w [] reach = omega arith
    columns_long x w (row ∷ rows) reach =
        let here = long x w row (reach 0 (omega arith)) in
        let rest = columns_long x w rows (λ k h. reach (suc k) (omega (arith, h))) in
        let next : w * suc (length rows) ≡ w + w * length rows = omega arith in
        omega (arith, length-append (take w (drop x row)) (row_major (columns x w rows)), here, rest, next)

    -- A block and the block below it.
    pub blocks_joined : (x y : ℕ) → x + 4 ≤ width → x + 4 ≤ width1
        → sums_of_rectangle value x y 4 8 a b
        ≡ added (sums_of_rectangle value x y 4 4 a b) (sums_of_rectangle value x (y + 4) 4 4 a b)
    blocks_joined x y h h1 =
        let cut : (rows : Table T) → row_major (rectangle x y 4 8 rows)
        ≡ row_major (rectangle x y 4 4 rows) ++ row_major (rectangle x (y + 4) 4 4 rows) =
        λ rows.
        rw (
          take-add 4 4 (drop y rows),
          drop-drop 4 y rows,
          map-append (λ row. take 4 (drop x row)) (take 4 (drop y rows)) (take 4 (drop (y + 4) rows)),
          row_major-append (columns x 4 (take 4 (drop y rows))) (columns x 4 (take 4 (drop (y + 4) rows))),
        ) refl in
        let top = columns_long x 4 (take 4 (drop y a)) (reaches (x + 4) y 4 width a wide h) in
        let top1 = columns_long x 4 (take 4 (drop y b)) (reaches (x + 4) y 4 width1 b wide1 h1) in
        rw (cut a, cut b)
        (sums_of-append value (row_major (rectangle x y 4 4 a)) (row_major (rectangle x y 4 4 b))
        (row_major (rectangle x (y + 4) 4 4 a)) (row_major (rectangle x (y + 4) 4 4 b))
        (top ∙ ap (λ n. 4 * n) (same_height y 4 a b same) ∙ sym top1))
