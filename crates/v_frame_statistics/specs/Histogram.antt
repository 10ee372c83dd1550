-- Histograms of lists of values.
use Rattle.std.specs.Prelude.{ℕ, ◌≡◌, ◌+◌, ◌<◌, ◌^◌, List, count_by, nat_eq, slice_index}

-- The number of times that `value` occurs in `xs`.
abbrev pub occurrences : ℕ → List ℕ → ℕ
occurrences value xs = count_by (λ p. nat_eq p value) xs

-- `table` is the histogram of `xs` for the values below `size`.
abbrev pub Counts : ℕ → List ℕ → List ℕ → Type 0
Counts size xs table = (v : ℕ) → v < size → slice_index table v ≡ occurrences v xs

-- `new` is `old` with the histogram of `xs` added, for the values below `size`.
abbrev pub CountsMore : ℕ → List ℕ → List ℕ → List ℕ → Type 0
CountsMore size xs old new =
    (v : ℕ) → v < size → slice_index new v ≡ slice_index old v + occurrences v xs

-- Each entry of `table` can grow by `more` and still fits 64 bits.
abbrev pub HasRoom : ℕ → List ℕ → ℕ → Type 0
HasRoom size table more = (v : ℕ) → v < size → slice_index table v + more < 2 ^ 64
