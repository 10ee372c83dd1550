-- Tables that are transformed row by row or pixel by pixel, with the source of each pixel.
use Rattle.std.specs.Prelude.{ℕ, ◌≡◌, ◌-◌, ◌<◌, ◌≤◌, Bool, false, true, if◌then◌else◌, List, Option, map, reverse}
use Rattle.v_frame.specs.Prelude.{Table, height_of, pixel_at, width_of}

-- Index `i` of `count`, counted from the end if `from_end` is true.
abbrev pub index_from : Bool → ℕ → ℕ → ℕ
index_from from_end count i = if from_end then count - 1 - i else i

-- A list, reversed if the flag is true.
abbrev pub list_from : {X : Type 0} → Bool → List X → List X
list_from false xs = xs
list_from true xs = reverse xs

module _ {T : Type 0} where
  -- A table, flipped upside down if `from_bottom` is true and mirrored if `mirrored` is true.
  abbrev pub flipped : Bool → Bool → Table T → Table T
  flipped from_bottom mirrored rows = list_from from_bottom (map (list_from mirrored) rows)

  -- The source of the pixel at column `x` of row `y`, if rows became columns. The flags state
  -- whether the columns of the source are counted from the right, and its rows from the bottom.
  abbrev pub turned_pixel : Bool → Bool → Table T → ℕ → ℕ → Option T
  turned_pixel from_right from_bottom rows x y =
      pixel_at rows (index_from from_right (width_of rows) y)
      (index_from from_bottom (height_of rows) x)

  -- Pixels of a table that have their final value keep it.
  abbrev pub KeepsRight : (ℕ → ℕ → Option T) → Table T → Table T → Type 0
  KeepsRight right old new =
      (x y : ℕ) → pixel_at old x y ≡ right x y → pixel_at new x y ≡ right x y

  -- The pixels of column `x` in the rows from `from` to below `to` have their final value.
  abbrev pub ColumnIsRight : (ℕ → ℕ → Option T) → Table T → ℕ → ℕ → ℕ → Type 0
  ColumnIsRight right table x from to =
      (y : ℕ) → from ≤ y → y < to → pixel_at table x y ≡ right x y
