-- Filters that read the neighbors of a pixel.
use Rattle.std.specs.Prelude.{ℕ, ◌+◌, ◌/◌, ◌<◌, Option, unwrap_or}
use Rattle.v_frame.specs.Prelude.{Geometry, Table, width_of, height_of, pixel_at}
use Rattle.v_frame_ops.specs.Prelude.{nearest}

-- A plane has a border on each side.
pub record HasBorderAllRound (g : Geometry) : Type 0 where
  pub left : 0 < g.pad_left
  pub right : 0 < g.pad_right
  pub top : 0 < g.pad_top
  pub bottom : 0 < g.pad_bottom

-- The sum of three pixels of a row, from column x on.
abbrev pub three_of : (ℕ → Option ℕ) → ℕ → ℕ
three_of pixel x =
    unwrap_or (pixel x) 0 + unwrap_or (pixel (x + 1)) 0 + unwrap_or (pixel (x + 2)) 0

-- The mean of three by three pixels, from column x of row y on, rounded down.
abbrev pub mean_of_nine : (ℕ → ℕ → Option ℕ) → ℕ → ℕ → ℕ
mean_of_nine pixel x y =
    (three_of (λ i. pixel i y) x + three_of (λ i. pixel i (y + 1)) x
    + three_of (λ i. pixel i (y + 2)) x) / 9

-- The mean of a pixel of a table and its eight neighbors. Columns and rows are counted from one
-- pixel outside the table, and a position outside has the value of the nearest pixel.
abbrev pub box_mean : Table ℕ → ℕ → ℕ → ℕ
box_mean rows x y =
    mean_of_nine
    (λ i j. pixel_at rows (nearest 1 (width_of rows) i) (nearest 1 (height_of rows) j)) x y
