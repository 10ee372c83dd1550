-- Rows that are mixed pixel by pixel.
use Rattle.std.specs.Prelude.{ℕ, ◌+◌, ◌/◌, List, map}
use Rattle.std.specs.List.{zip}

-- The averages of the pixels of two rows, rounded down.
abbrev pub averages : List ℕ → List ℕ → List ℕ
averages row other = map (λ pair. (pair.0 + pair.1) / 2) (zip row other)
