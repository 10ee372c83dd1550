-- Sums over columns of four pixels: one more column, parts of rows, and four adjacent columns.
use Rattle.std.proofs.Common.{ℕ, ◌≡◌, ◌+◌, ◌-◌, ◌*◌, ◌≤◌, ◌<◌, List, [], ◌∷◌, length, take, drop, get_or, set}
use Rattle.std.proofs.Common.{refl, ap, arith, Some, slice_get, map, sym, ◌∙◌, zero-add, get_or-set_other, get_or-set_same, below_more}
use Rattle.std.proofs.lemmas.List.{drop_more, drop-drop, drop-take, take-take, length-set, length-take-le, length-drop, get_or-take, get_or-drop}
use Rattle.std.proofs.lemmas.Option.{slice_get_within, get_or_from_slice_get}
use Rattle.v_frame.specs.Prelude.{Table, row_major}
use Rattle.v_frame_measures.specs.declared.similarity.sums.PixelSums.{PixelSums}
use Rattle.v_frame_measures.specs.declared.similarity.columns.ColumnSums.{ColumnSums}
use Rattle.v_frame_measures.specs.PixelSums.{sums_of}
use Rattle.v_frame_measures.specs.ColumnSums.{AreColumnSums, HasNarrowValues, IsNarrow, IsNarrowPart, sums_of_column}
use Rattle.v_frame_measures.proofs.Joined.{make, alike}

-- The loop step: one more item of a list that is written from its start.
set_more : (P : ℕ → ℕ → Type 0) (xs : List ℕ) (i v : ℕ) → i < length xs
    → ((k : ℕ) → k < i → P k (get_or xs k 0)) → P i v → (k : ℕ) → k < i + 1 → P k (get_or (set xs i v) k 0)
set_more P xs i v h before here =
    below_more (λ k. P k (get_or (set xs i v) k 0)) i
    (λ k less. let other : k ≡ i → ⊥ = λ e. absurd (omega arith) in rw (get_or-set_other xs i k v 0 other) (before k less))
    (rw (get_or-set_same xs i v 0 h) here)

module _ {T : Type 0} (value : T → ℕ) (a b : Table T) where
  -- The first `n` columns are summed.
  pub record SummedColumns (sums : ColumnSums) (n : ℕ) : Type 0 where
    pub long_first : length sums.first ≡ 32
    pub long_second : length sums.second ≡ 32
    pub long_squares : length sums.squares ≡ 32
    pub long_products : length sums.products ≡ 32
    pub first : (k : ℕ) → k < n → get_or sums.first k 0 ≡ (sums_of_column value (0 + k) a b).first
    pub second : (k : ℕ) → k < n → get_or sums.second k 0 ≡ (sums_of_column value (0 + k) a b).second
    pub squares : (k : ℕ) → k < n → get_or sums.squares k 0 ≡ (sums_of_column value (0 + k) a b).squares
    pub products : (k : ℕ) → k < n → get_or sums.products k 0 ≡ (sums_of_column value (0 + k) a b).products
    pub small_first : (k : ℕ) → k < n → get_or sums.first k 0 ≤ 65536
    pub small_second : (k : ℕ) → k < n → get_or sums.second k 0 ≤ 65536
    pub small_squares : (k : ℕ) → k < n → get_or sums.squares k 0 < 1073741824
    pub small_products : (k : ℕ) → k < n → get_or sums.products k 0 < 1073741824

  pub one_more_column : (sums : ColumnSums) (i f s q p : ℕ) → SummedColumns sums i → i < 32
      → make f s q p ≡ sums_of_column value (0 + i) a b
      → f ≤ 65536 → s ≤ 65536 → q < 1073741824 → p < 1073741824
      → SummedColumns (record {
        first = set sums.first i f;
        second = set sums.second i s;
        squares = set sums.squares i q;
        products = set sums.products i p;
      }) (i + 1)
  one_more_column sums i f s q p so_far h is small_f small_s small_q small_p =
      let column : ℕ → PixelSums = λ k. sums_of_column value (0 + k) a b in
      let in_first : i < length sums.first = omega (arith, so_far.long_first) in
      let in_second : i < length sums.second = omega (arith, so_far.long_second) in
      let in_squares : i < length sums.squares = omega (arith, so_far.long_squares) in
      let in_products : i < length sums.products = omega (arith, so_far.long_products) in
      record {
        long_first = length-set sums.first i f ∙ so_far.long_first;
        long_second = length-set sums.second i s ∙ so_far.long_second;
        long_squares = length-set sums.squares i q ∙ so_far.long_squares;
        long_products = length-set sums.products i p ∙ so_far.long_products;
        first =
            set_more (λ k v. v ≡ (column k).first) sums.first i f in_first so_far.first
            (ap (λ (t : PixelSums). t.first) is);
        second =
            set_more (λ k v. v ≡ (column k).second) sums.second i s in_second so_far.second
            (ap (λ (t : PixelSums). t.second) is);
        squares =
            set_more (λ k v. v ≡ (column k).squares) sums.squares i q in_squares so_far.squares
            (ap (λ (t : PixelSums). t.squares) is);
        products =
            set_more (λ k v. v ≡ (column k).products) sums.products i p in_products so_far.products
            (ap (λ (t : PixelSums). t.products) is);
        small_first = set_more (λ k v. v ≤ 65536) sums.first i f in_first so_far.small_first small_f;
        small_second = set_more (λ k v. v ≤ 65536) sums.second i s in_second so_far.small_second small_s;
        small_squares = set_more (λ k v. v < 1073741824) sums.squares i q in_squares so_far.small_squares small_q;
        small_products = set_more (λ k v. v < 1073741824) sums.products i p in_products so_far.small_products small_p;
      }

module _ {T : Type 0} (value : T → ℕ) where
  -- One pixel of a row.
  one_pixel : (x : ℕ) (row : List T) (u : T) → x < length row → u ≡ get_or row x u → take 1 (drop x row) ≡ u ∷ []
  one_pixel x row u h read = rw (drop_more row x u h) (ap (λ v. v ∷ []) (sym read))

  -- The four pixels of a column of four rows.
  four_pixels : (x : ℕ) (p0 p1 p2 p3 : List T) (u0 u1 u2 u3 : T) → x < length p0 → x < length p1 → x < length p2
      → x < length p3 → u0 ≡ get_or p0 x u0 → u1 ≡ get_or p1 x u1 → u2 ≡ get_or p2 x u2 → u3 ≡ get_or p3 x u3
      → row_major (map (λ row. take 1 (drop x row)) (p0 ∷ p1 ∷ p2 ∷ p3 ∷ [])) ≡ u0 ∷ u1 ∷ u2 ∷ u3 ∷ []
  four_pixels x p0 p1 p2 p3 u0 u1 u2 u3 h0 h1 h2 h3 e0 e1 e2 e3 =
      rw (one_pixel x p0 u0 h0 e0, one_pixel x p1 u1 h1 e1, one_pixel x p2 u2 h2 e2, one_pixel x p3 u3 h3 e3) refl

  sums_of_four : (u0 u1 u2 u3 w0 w1 w2 w3 : T)
      → make (value u0 + value u1 + value u2 + value u3) (value w0 + value w1 + value w2 + value w3)
      (value u0 * value u0 + value w0 * value w0 + (value u1 * value u1 + value w1 * value w1)
      + (value u2 * value u2 + value w2 * value w2) + (value u3 * value u3 + value w3 * value w3))
      (value u0 * value w0 + value u1 * value w1 + value u2 * value w2 + value u3 * value w3)
      ≡ sums_of value (u0 ∷ u1 ∷ u2 ∷ u3 ∷ []) (w0 ∷ w1 ∷ w2 ∷ w3 ∷ [])
  sums_of_four u0 u1 u2 u3 w0 w1 w2 w3 =
      alike _ _ _ _ _ _ _ _ (omega arith) (omega arith) (omega arith) (omega arith)

  -- The pixels `u0` to `u3` of column `x` in four rows.
  pub record ColumnPixels (p0 p1 p2 p3 : List T) (x : ℕ) (u0 u1 u2 u3 : T) : Type 0 where
    pub long0 : x < length p0
    pub long1 : x < length p1
    pub long2 : x < length p2
    pub long3 : x < length p3
    pub is0 : u0 ≡ get_or p0 x u0
    pub is1 : u1 ≡ get_or p1 x u1
    pub is2 : u2 ≡ get_or p2 x u2
    pub is3 : u3 ≡ get_or p3 x u3

  pub column_of_pixels : (p0 p1 p2 p3 q0 q1 q2 q3 : List T) (x : ℕ) (u0 u1 u2 u3 w0 w1 w2 w3 : T)
      → ColumnPixels p0 p1 p2 p3 x u0 u1 u2 u3 → ColumnPixels q0 q1 q2 q3 x w0 w1 w2 w3
      → make (value u0 + value u1 + value u2 + value u3) (value w0 + value w1 + value w2 + value w3)
      (value u0 * value u0 + value w0 * value w0 + (value u1 * value u1 + value w1 * value w1)
      + (value u2 * value u2 + value w2 * value w2) + (value u3 * value u3 + value w3 * value w3))
      (value u0 * value w0 + value u1 * value w1 + value u2 * value w2 + value u3 * value w3)
      ≡ sums_of_column value (0 + x) (p0 ∷ p1 ∷ p2 ∷ p3 ∷ []) (q0 ∷ q1 ∷ q2 ∷ q3 ∷ [])
  column_of_pixels p0 p1 p2 p3 q0 q1 q2 q3 x u0 u1 u2 u3 w0 w1 w2 w3 p q =
      let first =
      four_pixels x p0 p1 p2 p3 u0 u1 u2 u3 p.long0 p.long1 p.long2 p.long3 p.is0 p.is1 p.is2 p.is3 in
      let second =
      four_pixels x q0 q1 q2 q3 w0 w1 w2 w3 q.long0 q.long1 q.long2 q.long3 q.is0 q.is1 q.is2 q.is3 in
      sums_of_four u0 u1 u2 u3 w0 w1 w2 w3
      ∙ ap (λ us. sums_of value us (w0 ∷ w1 ∷ w2 ∷ w3 ∷ [])) (sym first)
      ∙ ap (sums_of value (row_major (map (λ row. take 1 (drop x row)) (p0 ∷ p1 ∷ p2 ∷ p3 ∷ [])))) (sym second)
      ∙ ap (λ n. sums_of_column value n (p0 ∷ p1 ∷ p2 ∷ p3 ∷ []) (q0 ∷ q1 ∷ q2 ∷ q3 ∷ [])) (sym (zero-add x))

  -- A part of a row whose values are below 8192.
  pub part_is_narrow : (rows : Table T) (y x n : ℕ) (row : List T) → HasNarrowValues value rows
      → slice_get rows y ≡ Some row → n ≡ 32 → x + n ≤ length row → IsNarrowPart value (take n (drop x row))
  part_is_narrow rows y x n row narrow is few wide =
      let all : IsNarrow value row =
      rw (get_or_from_slice_get rows y row row is) at (narrow y row (slice_get_within rows y row is)) in
      let long : length (take n (drop x row)) ≡ n = length-take-le n (drop x row) (omega (arith, length-drop x row, wide)) in
      record {
        long = long ∙ few;
        narrow =
            λ k d h.
            let within : k < n = omega (arith, h, long) in
            rw (get_or-take n (drop x row) k d within, get_or-drop x row k d)
            (all (x + k) d (omega (arith, within, wide)));
      }

  -- Four rows of a picture.
  four_rows : (a : Table T) (y : ℕ) (r0 r1 r2 r3 : List T) → slice_get a y ≡ Some r0 → slice_get a (y + 1) ≡ Some r1
      → slice_get a (y + 2) ≡ Some r2 → slice_get a (y + 3) ≡ Some r3
      → take 4 (drop y a) ≡ r0 ∷ r1 ∷ r2 ∷ r3 ∷ []
  four_rows a y r0 r1 r2 r3 is0 is1 is2 is3 =
      let row : (z : ℕ) (r : List T) → slice_get a z ≡ Some r → drop z a ≡ r ∷ drop (z + 1) a =
      λ z r is. rw (get_or_from_slice_get a z r r is) at (drop_more a z r (slice_get_within a z r is)) in
      let two : y + 1 + 1 ≡ y + 2 = omega arith in
      let three : y + 2 + 1 ≡ y + 3 = omega arith in
      rw (row y r0 is0, row (y + 1) r1 is1, two, row (y + 2) r2 is2, three, row (y + 3) r3 is3) refl

  -- A column of a part of a row.
  column_of_part : (n x k : ℕ) (row : List T) → k < n
      → take 1 (drop (0 + k) (take n (drop x row))) ≡ take 1 (drop (x + k) row)
  column_of_part n x k row h =
      let split : n ≡ k + (n - k) = omega arith in
      let cut : drop k (take n (drop x row)) ≡ take (n - k) (drop k (drop x row)) =
      ap (λ m. drop k (take m (drop x row))) split ∙ drop-take k (n - k) (drop x row) in
      ap (λ m. take 1 (drop m (take n (drop x row)))) (zero-add k)
      ∙ ap (take 1) cut
      ∙ take-take 1 (n - k) (drop k (drop x row)) (omega arith)
      ∙ ap (take 1) (drop-drop k x row)

  -- The sums over the columns of parts of four rows are the sums over columns of the pictures.
  pub parts_summed : (n x y : ℕ) (a b : Table T) (r0 r1 r2 r3 s0 s1 s2 s3 : List T) (sums : ColumnSums) → 32 ≤ n
      → slice_get a y ≡ Some r0 → slice_get a (y + 1) ≡ Some r1 → slice_get a (y + 2) ≡ Some r2
      → slice_get a (y + 3) ≡ Some r3 → slice_get b y ≡ Some s0 → slice_get b (y + 1) ≡ Some s1
      → slice_get b (y + 2) ≡ Some s2 → slice_get b (y + 3) ≡ Some s3
      → AreColumnSums value 0
      (take n (drop x r0) ∷ take n (drop x r1) ∷ take n (drop x r2) ∷ take n (drop x r3) ∷ [])
      (take n (drop x s0) ∷ take n (drop x s1) ∷ take n (drop x s2) ∷ take n (drop x s3) ∷ []) sums
      → AreColumnSums value x (take 4 (drop y a)) (take 4 (drop y b)) sums
  parts_summed n x y a b r0 r1 r2 r3 s0 s1 s2 s3 sums many e0 e1 e2 e3 f0 f1 f2 f3 are =
      let same : (k : ℕ) → k < 32
      → sums_of_column value (0 + k)
      (take n (drop x r0) ∷ take n (drop x r1) ∷ take n (drop x r2) ∷ take n (drop x r3) ∷ [])
      (take n (drop x s0) ∷ take n (drop x s1) ∷ take n (drop x s2) ∷ take n (drop x s3) ∷ [])
      ≡ sums_of_column value (x + k) (take 4 (drop y a)) (take 4 (drop y b)) =
      λ k h.
      let less : k < n = omega arith in
      rw (
        four_rows a y r0 r1 r2 r3 e0 e1 e2 e3,
        four_rows b y s0 s1 s2 s3 f0 f1 f2 f3,
        column_of_part n x k r0 less,
        column_of_part n x k r1 less,
        column_of_part n x k r2 less,
        column_of_part n x k r3 less,
        column_of_part n x k s0 less,
        column_of_part n x k s1 less,
        column_of_part n x k s2 less,
        column_of_part n x k s3 less,
      ) refl
      in record {
        first = λ k h. are.first k h ∙ ap (λ (t : PixelSums). t.first) (same k h);
        second = λ k h. are.second k h ∙ ap (λ (t : PixelSums). t.second) (same k h);
        squares = λ k h. are.squares k h ∙ ap (λ (t : PixelSums). t.squares) (same k h);
        products = λ k h. are.products k h ∙ ap (λ (t : PixelSums). t.products) (same k h);
      }
