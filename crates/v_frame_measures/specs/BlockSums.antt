-- Sums over blocks of 4 by 4 pixels of two pictures, and over windows of 2 by 2 blocks.
use Rattle.std.specs.Prelude.{ℕ, ◌≡◌, ◌+◌, ◌*◌, ◌≤◌, ◌<◌, List, map, slice_index}
use Rattle.std.specs.List.{range_with_len}
use Rattle.std.specs.Float.Ieee.{Float}
use Rattle.v_frame.specs.Prelude.{Table}
use Rattle.v_frame_measures.specs.declared.similarity.blocks.BlockSums.{BlockSums}
use Rattle.v_frame_measures.specs.declared.similarity.sums.PixelSums.{PixelSums}
use Rattle.v_frame_measures.specs.declared.similarity.window.SsimConstants.{SsimConstants}
use Rattle.v_frame_measures.specs.PixelSums.{added, sums_of_rectangle}
use Rattle.v_frame_measures.specs.Ssim.{similarity_of}

-- The sums over block `k`.
abbrev pub block_at : BlockSums → ℕ → PixelSums
block_at blocks k =
    record {
      first = slice_index blocks.first k;
      second = slice_index blocks.second k;
      squares = slice_index blocks.squares k;
      products = slice_index blocks.products k;
    }

-- The first `count` entries of `blocks` are the sums over the blocks from column `x` of row `y` on.
abbrev pub AreBlockSums : {T : Type 0} → (T → ℕ) → ℕ → ℕ → Table T → Table T → ℕ → BlockSums
    → Type 0
AreBlockSums value x y a b count blocks =
    (k : ℕ) → k < count → block_at blocks k ≡ sums_of_rectangle value (x + 4 * k) y 4 4 a b

-- The sum over window `k`: two adjacent entries of `above` and the two entries of `below` at the
-- same indexes.
abbrev pub window_sum : List ℕ → List ℕ → ℕ → ℕ
window_sum above below k =
    slice_index above k + slice_index below k
    + (slice_index above (k + 1) + slice_index below (k + 1))

-- The sums over window `k`, which has two adjacent blocks of `above` and the two blocks of `below`
-- under them.
abbrev pub window_of : BlockSums → BlockSums → ℕ → PixelSums
window_of above below k =
    added (added (block_at above k) (block_at below k))
    (added (block_at above (k + 1)) (block_at below (k + 1)))

-- The similarities of `count` windows, from window `k` on.
abbrev pub similarities_of : SsimConstants → BlockSums → BlockSums → ℕ → ℕ → List Float
similarities_of constants above below k count =
    map (λ i. similarity_of constants (window_of above below i)) (range_with_len k count)

-- Bounds for the sums over a window of 64 pixels with values of at most 8 bits.
pub record AreSumsOfBytes (sums : PixelSums) : Type 0 where
  pub first : sums.first ≤ 16320
  pub second : sums.second ≤ 16320
  pub squares : sums.squares ≤ 8323200
  pub products : sums.products ≤ 4161600
