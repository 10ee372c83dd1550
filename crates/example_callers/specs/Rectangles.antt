-- Rows after a write of some pixels.
use Rattle.std.specs.Prelude.{ℕ, List, ◌++◌, length, take, drop}

-- The row with these pixels from column x on.
abbrev pub with_pixels : {T : Type 0} → List T → ℕ → List T → List T
with_pixels row x pixels = take x row ++ (pixels ++ drop (length pixels) (drop x row))
