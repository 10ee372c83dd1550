-- Mapped and combined tables with results computed by hand. Each line is proved by computation
-- (`refl`).
use Rattle.std.specs.Prelude.{ℕ, ◌≡◌, ◌+◌, ◌/◌, [], ◌∷◌, refl}
use Rattle.v_frame.specs.Prelude.{Table, Raster, geometry_of, raster, table_of, whole_rows, pixel_at}
use Rattle.v_frame_ops.specs.Border.{nearest}
use Rattle.v_frame_ops.specs.Change.{mapped, combined}

abbrev two_rows : Table ℕ
two_rows = (1 ∷ 2 ∷ 3 ∷ []) ∷ (4 ∷ 5 ∷ 6 ∷ []) ∷ []

abbrev two_others : Table ℕ
two_others = (9 ∷ 8 ∷ 7 ∷ []) ∷ (1 ∷ 0 ∷ 2 ∷ []) ∷ []

halves : mapped (mapped (λ p. p / 2)) two_rows ≡ (0 ∷ 1 ∷ 1 ∷ []) ∷ (2 ∷ 2 ∷ 3 ∷ []) ∷ []
halves = refl

means : combined (combined (λ p q. (p + q) / 2)) two_rows two_others
    ≡ (5 ∷ 5 ∷ 5 ∷ []) ∷ (2 ∷ 2 ∷ 4 ∷ []) ∷ []
means = refl

-- A picture of three columns after a padding of two: a column of the padding before it, its first
-- and its last column, and a column of the padding after it.
before : nearest 2 3 0 ≡ 0
before = refl

first : nearest 2 3 2 ≡ 0
first = refl

last : nearest 2 3 4 ≡ 2
last = refl

behind : nearest 2 3 9 ≡ 2
behind = refl

-- 3 by 2 pixels, padded with 1 column on the left, 2 columns on the right and 1 row above.
abbrev padded : Raster ℕ
padded =
    raster (geometry_of 3 2 1 2 1 0 1 1)
    (1 ∷ 1 ∷ 2 ∷ 3 ∷ 3 ∷ 3 ∷
    1 ∷ 1 ∷ 2 ∷ 3 ∷ 3 ∷ 3 ∷
    4 ∷ 4 ∷ 5 ∷ 6 ∷ 6 ∷ 6 ∷ [])

its_table : table_of padded ≡ two_rows
its_table = refl

above_to_the_right : pixel_at (whole_rows padded) 5 0
    ≡ pixel_at (table_of padded) (nearest 1 3 5) (nearest 1 2 0)
above_to_the_right = refl

below_to_the_left : pixel_at (whole_rows padded) 0 2
    ≡ pixel_at (table_of padded) (nearest 1 3 0) (nearest 1 2 2)
below_to_the_left = refl
