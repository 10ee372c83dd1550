-- Laws of sums over rows, of lists that loops write, of quotients and of chroma sizes. Each is the
-- contract of a function of the module `laws`.
use Rattle.std.specs.Prelude.{ℕ, ◌≡◌, ◌+◌, ◌*◌, ◌/◌, ◌<◌, ◌≤◌, true, Some, List, ◌++◌, length, drop, slice_get}
use Rattle.v_frame_raster.specs.Table.{Table, row_major}
use Rattle.v_frame_raster.specs.Geometry.{Geometry, alloc_size_of}
use Rattle.v_frame_raster.specs.Chroma.{has_quotient, chroma_size_of}
use Rattle.v_frame_raster.specs.declared.chroma.ChromaSubsampling.{ChromaSubsampling}

-- The sum over two rows is the total of the sums over their parts, if the first parts have equal
-- lengths. The sum over the rest of two tables is the sum over their next rows plus the sum over
-- the rows after these.
pub record AddsUp {T : Type 0} (sum : List T → List T → ℕ) : Type 0 where
  pub joined : (a b a1 b1 : List T) → length a ≡ length b
      → sum (a ++ a1) (b ++ b1) ≡ sum a b + sum a1 b1
  pub by_rows : (table other : Table T) (y : ℕ) (row row1 : List T) → slice_get table y ≡ Some row
      → slice_get other y ≡ Some row1 → length row ≡ length row1
      → sum (row_major (drop y table)) (row_major (drop y other))
      ≡ sum row row1 + sum (row_major (drop (y + 1) table)) (row_major (drop (y + 1) other))

-- A list that is written from the front. It has the length of the expected list, and agrees with it
-- at every index below `place`.
pub record AgreesBelow {X : Type 0} (expected now : List X) (place : ℕ) : Type 0 where
  pub long : length now ≡ length expected
  pub same : (k : ℕ) → k < place → slice_get now k ≡ slice_get expected k

-- A list that is written in place from the front. From index `place` on, it still agrees with the
-- old list.
pub record WrittenBelow {X : Type 0} (expected old now : List X) (place : ℕ) : Type 0 where
  pub agrees : AgreesBelow expected now place
  pub others : (k : ℕ) → place ≤ k → slice_get now k ≡ slice_get old k

-- If a is divisible by the ratio, the quotient is the only number that gives a when multiplied by
-- the ratio.
pub record IsQuotient (a ratio : ℕ) : Type 0 where
  pub found : (q : ℕ) → a ≡ q * ratio → (has_quotient a ratio ≡ true) × (a / ratio ≡ q)
  pub exact : has_quotient a ratio ≡ true → a ≡ a / ratio * ratio

-- The chroma geometry has the size of the chroma planes. Its size and its buffer are not larger
-- than those of luma.
pub record HasChromaSize (subsampling : ChromaSubsampling) (luma chroma : Geometry) : Type 0 where
  pub size : chroma_size_of subsampling luma.width luma.height ≡ Some (chroma.width, chroma.height)
  pub no_wider : chroma.width ≤ luma.width
  pub no_higher : chroma.height ≤ luma.height
  pub no_larger : alloc_size_of chroma ≤ alloc_size_of luma
