-- A table that is rotated, mirrored and transposed by hand. Each line is proved by computation
-- (`refl`).
use Rattle.std.specs.Prelude.{ℕ, ◌≡◌, [], ◌∷◌, map, reverse, refl}
use Rattle.v_frame.specs.Prelude.{Table}
use Rattle.v_frame_turn.specs.Turn.{transposed, rotated_90, rotated_180, rotated_270}

abbrev two_rows : Table ℕ
two_rows = (1 ∷ 2 ∷ 3 ∷ []) ∷ (4 ∷ 5 ∷ 6 ∷ []) ∷ []

upside_down : reverse two_rows ≡ (4 ∷ 5 ∷ 6 ∷ []) ∷ (1 ∷ 2 ∷ 3 ∷ []) ∷ []
upside_down = refl

mirrored : map reverse two_rows ≡ (3 ∷ 2 ∷ 1 ∷ []) ∷ (6 ∷ 5 ∷ 4 ∷ []) ∷ []
mirrored = refl

its_columns : transposed two_rows ≡ (1 ∷ 4 ∷ []) ∷ (2 ∷ 5 ∷ []) ∷ (3 ∷ 6 ∷ []) ∷ []
its_columns = refl

a_quarter : rotated_90 two_rows ≡ (4 ∷ 1 ∷ []) ∷ (5 ∷ 2 ∷ []) ∷ (6 ∷ 3 ∷ []) ∷ []
a_quarter = refl

a_half : rotated_180 two_rows ≡ (6 ∷ 5 ∷ 4 ∷ []) ∷ (3 ∷ 2 ∷ 1 ∷ []) ∷ []
a_half = refl

three_quarters : rotated_270 two_rows ≡ (3 ∷ 6 ∷ []) ∷ (2 ∷ 5 ∷ []) ∷ (1 ∷ 4 ∷ []) ∷ []
three_quarters = refl

-- A table without rows, and a table whose rows have no pixels.
no_rows : transposed {T = ℕ} [] ≡ []
no_rows = refl

empty_rows : transposed {T = ℕ} ([] ∷ [] ∷ []) ≡ []
empty_rows = refl
