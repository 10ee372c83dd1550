-- Sums over parts of two pictures that are joined: one more pixel, one more row, and four more columns.
use Rattle.std.proofs.Common.{ℕ, suc, ◌≡◌, ◌+◌, ◌-◌, ◌*◌, ◌≤◌, ◌<◌, min, All, List, [], ◌∷◌, ◌++◌, length, take, drop, get_or}
use Rattle.std.proofs.Common.{refl, ap, arith, Some, slice_get, map, sym, ◌∙◌}
use Rattle.std.proofs.lemmas.List.{append-nil, map-append, take_more, length-append, length-take, length-take-le, length-drop, get_or-drop, get_or-take, drop-drop}
use Rattle.std.proofs.lemmas.Option.{slice_get_within, get_or_from_slice_get}
use Rattle.std.proofs.Math.Seq.{take-add}
use Rattle.v_frame_raster.proofs.tables.CutRows.{row_major-append}
use Rattle.std.proofs.lemmas.List.Sums.{sum_by-append}
use Rattle.v_frame.specs.Prelude.{Table, rectangle, row_major}
use Rattle.v_frame_raster.proofs.SumsOfPairs.{sum_of_pairs-adds_up}
use Rattle.v_frame_measures.specs.declared.similarity.sums.PixelSums.{PixelSums}
use Rattle.v_frame_measures.specs.PixelSums.{added, sums_of, sums_of_rectangle, AreSumsOver}

abbrev pub make : ℕ → ℕ → ℕ → ℕ → PixelSums
make a b c d = record { first = a; second = b; squares = c; products = d }

pub alike : (a b c d a1 b1 c1 d1 : ℕ) → a ≡ a1 → b ≡ b1 → c ≡ c1 → d ≡ d1 → make a b c d ≡ make a1 b1 c1 d1
alike a b c d a1 b1 c1 d1 e e1 e2 e3 = rw (e, e1, e2, e3) refl

module _ {T : Type 0} (value : T → ℕ) where
  -- Sums over joined lists, if the first two lists have the same length.
  pub sums_of-append : (xs ys xs1 ys1 : List T) → length xs ≡ length ys
      → sums_of value (xs ++ xs1) (ys ++ ys1) ≡ added (sums_of value xs ys) (sums_of value xs1 ys1)
  sums_of-append xs ys xs1 ys1 same =
      let square : T → ℕ = λ p. value p * value p in
      alike _ _ _ _ _ _ _ _ (sum_by-append value xs xs1) (sum_by-append value ys ys1)
      (omega (arith, sum_by-append square xs xs1, sum_by-append square ys ys1))
      ((sum_of_pairs-adds_up (λ pair. value pair.0 * value pair.1)).joined xs ys xs1 ys1 same)

  -- One more pixel of each list.
  pub sums_of-more : (xs ys : List T) (i : ℕ) (p q : T) → length ys ≡ length xs → i < length xs → p ≡ get_or xs i p
      → q ≡ get_or ys i q
      → sums_of value (take (i + 1) xs) (take (i + 1) ys)
      ≡ added (sums_of value (take i xs) (take i ys)) (sums_of value (p ∷ []) (q ∷ []))
  sums_of-more xs ys i p q same h first second =
      let more : i < length ys = omega (arith, same) in
      let one : take (i + 1) xs ≡ take i xs ++ p ∷ [] = rw (← first) at (take_more xs i p h) in
      let other : take (i + 1) ys ≡ take i ys ++ q ∷ [] = rw (← second) at (take_more ys i q more) in
      let long : length (take i xs) ≡ length (take i ys) =
      omega (arith, length-take-le i xs (omega arith), length-take-le i ys (omega arith)) in
      rw (one, other) (sums_of-append (take i xs) (take i ys) (p ∷ []) (q ∷ []) long)

  -- One more row of a rectangle.
  rectangle_more : (x y width h : ℕ) (rows : Table T) (row : List T) → slice_get rows (y + h) ≡ Some row
      → row_major (rectangle x y width (h + 1) rows)
      ≡ row_major (rectangle x y width h rows) ++ take width (drop x row)
  rectangle_more x y width h rows row is =
      let cut : List T → List T = λ line. take width (drop x line) in
      let within : y + h < length rows = slice_get_within rows (y + h) row is in
      let next : take (h + 1) (drop y rows) ≡ take h (drop y rows) ++ row ∷ [] =
      rw (get_or-drop y rows h row, get_or_from_slice_get rows (y + h) row row is) at
      (take_more (drop y rows) h row (omega (arith, length-drop y rows))) in
      rw (
        next,
        map-append cut (take h (drop y rows)) (row ∷ []),
        row_major-append (map cut (take h (drop y rows))) (cut row ∷ []),
        append-nil (cut row),
      ) refl

  -- One more row of a rectangle of two pictures.
  pub sums_of_rectangle-more : (x y width h : ℕ) (a b : Table T) (row row1 : List T)
      → slice_get a (y + h) ≡ Some row → slice_get b (y + h) ≡ Some row1
      → length (row_major (rectangle x y width h a)) ≡ length (row_major (rectangle x y width h b))
      → sums_of_rectangle value x y width (h + 1) a b
      ≡ added (sums_of_rectangle value x y width h a b)
      (sums_of value (take width (drop x row)) (take width (drop x row1)))
  sums_of_rectangle-more x y width h a b row row1 is is1 same =
      rw (rectangle_more x y width h a row is, rectangle_more x y width h b row1 is1)
      (sums_of-append _ _ (take width (drop x row)) (take width (drop x row1)) same)

  -- The number of pixels of a rectangle with one more row.
  pub rectangle-length : (x y width h : ℕ) (rows : Table T) (row : List T) → slice_get rows (y + h) ≡ Some row
      → x + width ≤ length row
      → length (row_major (rectangle x y width (h + 1) rows))
      ≡ length (row_major (rectangle x y width h rows)) + width
  rectangle-length x y width h rows row is wide =
      let cut = take width (drop x row) in
      rw (rectangle_more x y width h rows row is, length-append (row_major (rectangle x y width h rows)) cut)
      (omega (arith, length-take-le width (drop x row) (omega (arith, length-drop x row, wide))))

  -- The columns of some rows.
  abbrev columns : ℕ → ℕ → Table T → Table T
  columns x width rows = map (λ row. take width (drop x row)) rows

  abbrev Reach : ℕ → Table T → Type 0
  Reach right rows = (k : ℕ) → k < length rows → right ≤ length (get_or rows k [])

  exchanged : (p q r s : PixelSums) → added (added p q) (added r s) ≡ added (added p r) (added q s)
  exchanged p q r s = alike _ _ _ _ _ _ _ _ (omega arith) (omega arith) (omega arith) (omega arith)

  -- Eight columns are four columns and the next four.
  eight_of_row : (x : ℕ) (row : List T) → take 8 (drop x row) ≡ take 4 (drop x row) ++ take 4 (drop (x + 4) row)
  eight_of_row x row = rw (← drop-drop 4 x row) (take-add 4 4 (drop x row))

  long : (x width : ℕ) (row : List T) → x + width ≤ length row → length (take width (drop x row)) ≡ width
  long x width row wide = length-take-le width (drop x row) (omega (arith, length-drop x row, wide))

  eight_columns : (x : ℕ) (a b : Table T) → length a ≡ length b → Reach (x + 8) a → Reach (x + 8) b
      → sums_of value (row_major (columns x 8 a)) (row_major (columns x 8 b))
      ≡ added (sums_of value (row_major (columns x 4 a)) (row_major (columns x 4 b)))
      (sums_of value (row_major (columns (x + 4) 4 a)) (row_major (columns (x + 4) 4 b)))
  eight_columns x [] [] same wide wide1 = refl
  eight_columns x (row ∷ a) (row1 ∷ b) same wide wide1 =
      let here = wide 0 (omega arith) in let here1 = wide1 0 (omega arith) in
      let rest = eight_columns x a b (omega (arith, same)) (λ k h. wide (suc k) (omega (arith, h)))
      (λ k h. wide1 (suc k) (omega (arith, h))) in
      let of_row : ℕ → ℕ → PixelSums = λ u v. sums_of value (take v (drop u row)) (take v (drop u row1)) in
      let of_rows : ℕ → ℕ → PixelSums = λ u v. sums_of value (row_major (columns u v a)) (row_major (columns u v b)) in
      let same_long : (u v : ℕ) → u + v ≤ x + 8 → length (take v (drop u row)) ≡ length (take v (drop u row1)) =
      λ u v reach. long u v row (omega (arith, here, reach)) ∙ sym (long u v row1 (omega (arith, here1, reach))) in
      let join : (u v : ℕ) → u + v ≤ x + 8
      → sums_of value (row_major (columns u v (row ∷ a))) (row_major (columns u v (row1 ∷ b)))
      ≡ added (of_row u v) (of_rows u v) =
      λ u v reach. sums_of-append _ _ (row_major (columns u v a)) (row_major (columns u v b)) (same_long u v reach) in
      let halves : of_row x 8 ≡ added (of_row x 4) (of_row (x + 4) 4) =
      rw (eight_of_row x row, eight_of_row x row1)
      (sums_of-append (take 4 (drop x row)) (take 4 (drop x row1)) (take 4 (drop (x + 4) row)) (take 4 (drop (x + 4) row1))
      (same_long x 4 (omega arith))) in
      join x 8 (omega arith)
      ∙ ap (λ s. added s (of_rows x 8)) halves
      ∙ ap (added (added (of_row x 4) (of_row (x + 4) 4))) rest
      ∙ exchanged (of_row x 4) (of_row (x + 4) 4) (of_rows x 4) (of_rows (x + 4) 4)
      ∙ sym (ap (added (sums_of value (row_major (columns x 4 (row ∷ a))) (row_major (columns x 4 (row1 ∷ b)))))
      (join (x + 4) 4 (omega arith))
      ∙ ap (λ s. added s (added (of_row (x + 4) 4) (of_rows (x + 4) 4))) (join x 4 (omega arith)))
  eight_columns x (row ∷ a) [] same wide wide1 = absurd (omega (arith, same))
  eight_columns x [] (row ∷ b) same wide wide1 = absurd (omega (arith, same))

  reaches : (x y width : ℕ) (rows : Table T) → All (λ row. length row ≡ width) rows → x + 8 ≤ width
      → Reach (x + 8) (take 8 (drop y rows))
  reaches x y width rows wide h k within =
      let few = length-take 8 (drop y rows) in
      let below : y + k < length rows = omega (arith, within, few, length-drop y rows) in
      rw (get_or-take 8 (drop y rows) k [] (omega (arith, within, few)), get_or-drop y rows k [])
      (omega (arith, h, wide (y + k) [] below))

  sums_of_window : (x y width width1 : ℕ) (a b : Table T) → All (λ row. length row ≡ width) a
      → All (λ row. length row ≡ width1) b → x + 8 ≤ width → x + 8 ≤ width1 → length a ≡ length b
      → sums_of_rectangle value x y 8 8 a b
      ≡ added (sums_of_rectangle value x y 4 8 a b) (sums_of_rectangle value (x + 4) y 4 8 a b)
  sums_of_window x y width width1 a b wide wide1 h h1 same =
      let count : (rows : Table T) → length (take 8 (drop y rows)) ≡ min 8 (length rows - y) =
      λ rows. length-take 8 (drop y rows) ∙ ap (min 8) (length-drop y rows) in
      eight_columns x (take 8 (drop y a)) (take 8 (drop y b)) (omega (arith, count a, count b, same))
      (reaches x y width a wide h) (reaches x y width1 b wide1 h1)

  -- A window consists of its left half and its right half.
  pub window_of_halves : (x y width width1 : ℕ) (a b : Table T) (left right both : PixelSums)
      → both ≡ added left right → left ≡ sums_of_rectangle value x y 4 8 a b
      → right ≡ sums_of_rectangle value (x + 4) y 4 8 a b
      → All (λ row. length row ≡ width) a → All (λ row. length row ≡ width1) b → x + 8 ≤ width → x + 8 ≤ width1
      → length a ≡ length b
      → both ≡ sums_of_rectangle value x y 8 8 a b
  window_of_halves x y width width1 a b left right both is first second wide wide1 h h1 same =
      is ∙ ap (λ sums. added sums right) first ∙ ap (added (sums_of_rectangle value x y 4 8 a b)) second
      ∙ sym (sums_of_window x y width width1 a b wide wide1 h h1 same)

-- Bounds for the sums over two parts.
pub added-over : (m n : ℕ) (s t : PixelSums) → AreSumsOver m s → AreSumsOver n t → AreSumsOver (m + n) (added s t)
added-over m n s t one other = record {
  first = omega (arith, one.first, other.first);
  second = omega (arith, one.second, other.second);
  squares = omega (arith, one.squares, other.squares);
  products = omega (arith, one.products, other.products);
}
