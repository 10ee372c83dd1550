-- The status of an export, which is that of the first test that fails.
use Rattle.std.specs.Prelude.{ℕ, ◌*◌, Bool, true, false, ◌&&◌, nat_eq}
use Rattle.v_frame_slices.specs.declared.layout.Rows.{Rows}

-- The status for one buffer: its rows must fit.
abbrev pub status_of_one : Bool → ℕ
status_of_one false = 1
status_of_one true = 0

-- The status for one buffer whose size the call restricts.
abbrev pub status_of_sized : Bool → Bool → ℕ
status_of_sized false sizes = 1
status_of_sized true false = 3
status_of_sized true true = 0

-- The status for two buffers: the rows of each must fit, and the sizes must be those that the call
-- requires.
abbrev pub status_of_two : Bool → Bool → Bool → ℕ
status_of_two false second sizes = 1
status_of_two true false sizes = 2
status_of_two true true false = 3
status_of_two true true true = 0

-- The status for a call with the number of a choice, which is tested first.
abbrev pub status_of_number : Bool → ℕ → ℕ
status_of_number false others = 5
status_of_number true others = others

-- The status for three buffers.
abbrev pub status_of_three : Bool → Bool → Bool → Bool → ℕ
status_of_three false second third sizes = 1
status_of_three true false third sizes = 2
status_of_three true true false sizes = 6
status_of_three true true true false = 3
status_of_three true true true true = 0

-- The status for four buffers.
abbrev pub status_of_four : Bool → Bool → Bool → Bool → Bool → ℕ
status_of_four false second third fourth sizes = 1
status_of_four true false third fourth sizes = 2
status_of_four true true false fourth sizes = 6
status_of_four true true true false sizes = 7
status_of_four true true true true false = 3
status_of_four true true true true true = 0

-- The status for five buffers.
abbrev pub status_of_five : Bool → Bool → Bool → Bool → Bool → Bool → ℕ
status_of_five false second third fourth fifth sizes = 1
status_of_five true false third fourth fifth sizes = 2
status_of_five true true false fourth fifth sizes = 6
status_of_five true true true false fifth sizes = 7
status_of_five true true true true false sizes = 9
status_of_five true true true true true false = 3
status_of_five true true true true true true = 0

-- The status for a call with a format, which is tested before all rows.
abbrev pub status_of_format : Bool → ℕ → ℕ
status_of_format false others = 4
status_of_format true others = others

-- Whether the sizes are the same.
abbrev pub same_size : Rows → Rows → Bool
same_size a b = nat_eq a.width b.width && nat_eq a.height b.height

-- Whether the width and the height of the second rows are `n` times those of the first.
abbrev pub times_size : ℕ → Rows → Rows → Bool
times_size n a b = nat_eq b.width (n * a.width) && nat_eq b.height (n * a.height)

-- Whether the second rows have the height of the first, and `n` entries for each entry of the
-- first.
abbrev pub encoded_size : ℕ → Rows → Rows → Bool
encoded_size n a b = nat_eq b.width (n * a.width) && nat_eq b.height a.height
