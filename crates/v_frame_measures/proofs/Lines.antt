-- Floats that are added from the first to the last: the loop step.
use Rattle.std.proofs.Common.{ℕ, ◌≡◌, ◌+◌, ◌*◌, ◌≤◌, All, length, map, ap, sym, ◌∙◌, arith}
use Rattle.std.specs.List.{fold, range_with_len}
use Rattle.std.specs.Float.{float_zero}
use Rattle.std.specs.Float.Ieee.{Float, Format, add}
use Rattle.std.proofs.lemmas.List.FromFn.{map-range_with_len_more}
use Rattle.std.proofs.lemmas.List.Sums.{fold_push}
use Rattle.v_frame.specs.Prelude.{PixelForm, Table}
use Rattle.v_frame_measures.specs.declared.similarity.sums.PixelSums.{PixelSums}
use Rattle.v_frame_measures.specs.declared.similarity.window.SsimConstants.{SsimConstants}
use Rattle.v_frame_measures.specs.PixelSums.{added, sums_of_rectangle, AreSumsOver}
use Rattle.v_frame_measures.specs.Ssim.{similarity_of, total, window_at}
use Rattle.v_frame_measures.proofs.Joined.{window_of_halves}

pub total-more : (f : Format) (at : ℕ → Float) (n : ℕ)
    → total f (map at (range_with_len 0 (n + 1))) ≡ add f (total f (map at (range_with_len 0 n))) (at n)
total-more f at n =
    ap (total f) (map-range_with_len_more at 0 n n (omega arith))
    ∙ fold_push (add f) float_zero (map at (range_with_len 0 n)) (at n)

-- The sum of the first `n` floats, with the next float added.
pub one_more : (f : Format) (at : ℕ → Float) (n : ℕ) (sum value : Float)
    → sum ≡ total f (map at (range_with_len 0 n)) → value ≡ at n
    → add f sum value ≡ total f (map at (range_with_len 0 (n + 1)))
one_more f at n sum value so_far is =
    ap (λ s. add f s value) so_far
    ∙ ap (add f (total f (map at (range_with_len 0 n)))) is
    ∙ sym (total-more f at n)

-- One more float is added to the sum of the floats from number `a` on.
pub one_more_added : (f : Format) (at : ℕ → Float) (a n j : ℕ) (start sum value : Float) → a + n ≡ j
    → sum ≡ fold (add f) start (map at (range_with_len a n)) → value ≡ at j
    → add f sum value ≡ fold (add f) start (map at (range_with_len a (n + 1)))
one_more_added f at a n j start sum value e so_far is =
    ap (λ s. add f s value) so_far
    ∙ ap (add f (fold (add f) start (map at (range_with_len a n)))) is
    ∙ sym (ap (fold (add f) start) (map-range_with_len_more at a n j e) ∙ fold_push (add f) start (map at (range_with_len a n)) (at j))

-- The first `n` windows of line `y` are added, and the columns of the left half of the next window are summed.
pub record LineSoFar {T : Type 0} (f : Format) (form : PixelForm T) (constants : SsimConstants) (a b : Table T)
    (y n : ℕ) (sum : Float) (half : PixelSums) : Type 0 where
  pub so_far : sum ≡ total f (map (λ x. window_at form constants a b x y) (range_with_len 0 n))
  pub left : half ≡ sums_of_rectangle form.value (4 * n) (4 * y) 4 8 a b
  pub bound : AreSumsOver 32 half

module _ {T : Type 0} (f : Format) (form : PixelForm T) (constants : SsimConstants) (a b : Table T) (width width1 : ℕ)
    (wide : All (λ row. length row ≡ width) a) (wide1 : All (λ row. length row ≡ width1) b)
    (same : length a ≡ length b) where
  -- One more window.
  pub one_more_window : (y n : ℕ) (sum value : Float) (left right both : PixelSums) → 4 * n + 8 ≤ width
      → 4 * n + 8 ≤ width1 → LineSoFar f form constants a b y n sum left
      → right ≡ sums_of_rectangle form.value (4 * n + 4) (4 * y) 4 8 a b → AreSumsOver 32 right
      → both ≡ added left right → value ≡ similarity_of constants both
      → LineSoFar f form constants a b y (n + 1) (add f sum value) right
  one_more_window y n sum value left right both h h1 so_far is few joined similar =
      let window =
      window_of_halves form.value (4 * n) (4 * y) width width1 a b left right both joined so_far.left is wide wide1 h h1
      same in
      let next : 4 * (n + 1) ≡ 4 * n + 4 = omega arith in
      record {
        so_far =
            one_more f (λ k. window_at form constants a b k y) n sum value so_far.so_far
            (similar ∙ ap (similarity_of constants) window);
        left = rw next is;
        bound = few;
      }
