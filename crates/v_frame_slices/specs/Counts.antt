-- Counts of pixels with a value, or with a value in a range.
use Rattle.std.specs.Prelude.{ℕ, Bool, ◌&&◌, List, count_by, nat_le}

-- Whether the value of a pixel is in the range from `least` to `greatest`, including both.
abbrev pub is_between : {T : Type 0} → (T → ℕ) → T → T → T → Bool
is_between value least greatest p = nat_le (value least) (value p)
    && nat_le (value p) (value greatest)

-- The number of pixels with a value in this range.
abbrev pub count_between : {T : Type 0} → (T → ℕ) → T → T → List T → ℕ
count_between value least greatest pixels = count_by (is_between value least greatest) pixels
