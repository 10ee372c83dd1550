-- A picture in the middle of a larger one.
use Rattle.std.specs.Prelude.{ℕ, ◌-◌, ◌/◌}

-- The number of columns to the left of a centered picture, or the number of rows above it.
abbrev pub before : ℕ → ℕ → ℕ
before whole part = (whole - part) / 2
