-- The pixels of a frame that are still to be written: the rest of the current row, and the rows
-- after it.
use Rattle.std.specs.Prelude.{ℕ, ◌+◌, List, ◌++◌, length, Option, Some, None}
use Rattle.v_frame.specs.Prelude.{Table}
use Rattle.v_frame_planar.specs.Planar.{planar_pixels}
use Rattle.v_frame_planar.specs.declared.pending.Pending.{Pending}

module _ {T : Type 0} where
  -- The pixels of the rows after the current one, and all pixels with the rest of the current row.
  abbrev pub pixels_behind : Pending T → List T
  pixels_behind p = planar_pixels (record { y = p.y; u = p.u; v = p.v })

  abbrev pub pixels_pending : Pending T → List T
  pixels_pending p = p.row.now ++ pixels_behind p

  abbrev pub row_count : Option (Table T) → ℕ
  row_count None = 0
  row_count (Some rows) = length rows

  -- The number of rows after the current one.
  abbrev pub rows_behind : Pending T → ℕ
  rows_behind p = length p.y + row_count p.u + row_count p.v
