-- Windows of blocks, and lines of windows in vertical strips.
use Rattle.std.proofs.Common.{ℕ, zero, suc, ◌≡◌, ◌+◌, ◌*◌, ◌≤◌, ◌<◌, All, length, map, refl, ap, sym, ◌∙◌, arith}
use Rattle.std.specs.List.{fold, range_with_len}
use Rattle.std.specs.Float.Ieee.{Float, Format, add}
use Rattle.std.proofs.lemmas.List.FromFn.{map-range_with_len_more}
use Rattle.std.proofs.lemmas.List.Sums.{fold_push}
use Rattle.v_frame.specs.Prelude.{PixelForm, Table}
use Rattle.v_frame_measures.specs.declared.similarity.blocks.BlockSums.{BlockSums}
use Rattle.v_frame_measures.specs.declared.similarity.window.SsimConstants.{SsimConstants}
use Rattle.v_frame_measures.specs.BlockSums.{AreBlockSums, AreSumsOfBytes, block_at, similarities_of, window_of}
use Rattle.v_frame_measures.specs.ColumnSums.{HasValuesUpTo}
use Rattle.v_frame_measures.specs.PixelSums.{added, sums_of_rectangle, AreSumsOver}
use Rattle.v_frame_measures.specs.Ssim.{similarity_of, total, window_at}
use Rattle.v_frame_measures.proofs.Blocks.{blocks_joined}
use Rattle.v_frame_measures.proofs.Bounds.{sums_at_most}
use Rattle.v_frame_measures.proofs.Joined.{window_of_halves}
use Rattle.v_frame_measures.proofs.Lines.{total-more}
use Rattle.v_frame_measures.proofs.Mapped.{map_same}
use Rattle.v_frame_measures.proofs.Windows.{each_of_range}

-- The sum of the first `n` floats, with `m` more floats added.
total_joined : (f : Format) (at : ℕ → Float) (n m : ℕ)
    → total f (map at (range_with_len 0 (n + m)))
    ≡ fold (add f) (total f (map at (range_with_len 0 n))) (map (λ i. at (n + i)) (range_with_len 0 m))
total_joined f at n zero = let none : n + 0 ≡ n = omega arith in rw none refl
total_joined f at n (suc m) =
    let next : n + suc m ≡ n + m + 1 = omega arith in let less : m + 1 ≡ suc m = omega arith in
    let start = total f (map at (range_with_len 0 n)) in let later : ℕ → Float = λ i. at (n + i) in
    rw next
    (total-more f at (n + m)
    ∙ ap (λ s. add f s (at (n + m))) (total_joined f at n m)
    ∙ sym (ap (fold (add f) start) (map-range_with_len_more later 0 m m (omega arith))
    ∙ fold_push (add f) start (map later (range_with_len 0 m)) (later m))
    ∙ ap (λ k. fold (add f) start (map later (range_with_len 0 k))) less)

module _ {T : Type 0} (form : PixelForm T) (a b : Table T) (width width1 : ℕ)
    (wide : All (λ row. length row ≡ width) a) (wide1 : All (λ row. length row ≡ width1) b)
    (same : length a ≡ length b) (n y count : ℕ) (h : 4 * n + 4 * count ≤ width) (h1 : 4 * n + 4 * count ≤ width1)
    (above below : BlockSums) (are : AreBlockSums form.value (4 * n) (4 * y) a b count above)
    (are1 : AreBlockSums form.value (4 * n) (4 * y + 4) a b count below) where
  -- A block and the block below it.
  half_is : (k : ℕ) → k < count
      → added (block_at above k) (block_at below k) ≡ sums_of_rectangle form.value (4 * n + 4 * k) (4 * y) 4 8 a b
  half_is k few =
      ap (λ s. added s (block_at below k)) (are k few)
      ∙ ap (added (sums_of_rectangle form.value (4 * n + 4 * k) (4 * y) 4 4 a b)) (are1 k few)
      ∙ sym (blocks_joined form.value width width1 a b wide wide1 same (4 * n + 4 * k) (4 * y) (omega (arith, h)) (omega (arith, h1)))

  -- Four blocks form a window.
  pub window_is : (k : ℕ) → k + 1 < count
      → window_of above below k ≡ sums_of_rectangle form.value (4 * (n + k)) (4 * y) 8 8 a b
  window_is k few =
      let left : 4 * n + 4 * k ≡ 4 * (n + k) = omega arith in
      let right : 4 * n + 4 * (k + 1) ≡ 4 * (n + k) + 4 = omega arith in
      window_of_halves form.value (4 * (n + k)) (4 * y) width width1 a b _ _ (window_of above below k) refl
      (rw left at (half_is k (omega arith))) (rw right at (half_is (k + 1) few)) wide wide1 (omega (arith, h)) (omega (arith, h1)) same

  -- The windows of a strip are added to the windows before it.
  pub strip_added : (f : Format) (constants : SsimConstants) (m : ℕ) → m + 1 ≡ count → (sum : Float)
      → sum ≡ total f (map (λ x. window_at form constants a b x y) (range_with_len 0 n))
      → fold (add f) sum (similarities_of constants above below 0 m)
      ≡ total f (map (λ x. window_at form constants a b x y) (range_with_len 0 (n + m)))
  strip_added f constants m all sum so_far =
      let at : ℕ → Float = λ x. window_at form constants a b x y in
      let alike : similarities_of constants above below 0 m ≡ map (λ i. at (n + i)) (range_with_len 0 m) =
      map_same (λ i. i < m) _ _ (range_with_len 0 m)
      (λ i few. ap (similarity_of constants) (window_is i (omega (arith, all)))) (each_of_range (λ i. i < m) 0 m (λ j from to. omega (arith, to))) in
      rw (so_far, alike) (sym (total_joined f at n m))

  -- Bounds for the sums over a window, for values of at most 255 and for any values.
  pub are_of_bytes : (most : ℕ) → most < 256 → HasValuesUpTo form.value most a → HasValuesUpTo form.value most b
      → (k : ℕ) → k + 1 < count → AreSumsOfBytes (window_of above below k)
  are_of_bytes most few all all1 k inside =
      let bound = sums_at_most form.value 255 most (4 * (n + k)) (4 * y) 8 8 a b (omega arith) all all1 in
      rw (window_is k inside) (record { first = bound.first; second = bound.second; squares = bound.squares; products = bound.products })

  pub are_over : (most : ℕ) → most < 65536 → HasValuesUpTo form.value most a → HasValuesUpTo form.value most b
      → (k : ℕ) → k + 1 < count → AreSumsOver 64 (window_of above below k)
  are_over most few all all1 k inside =
      let bound = sums_at_most form.value 65535 most (4 * (n + k)) (4 * y) 8 8 a b (omega arith) all all1 in
      rw (window_is k inside)
      (record {
        first = omega (arith, bound.first);
        second = omega (arith, bound.second);
        squares = omega (arith, bound.squares);
        products = omega (arith, bound.products);
      })
