-- The effect of writing a row into the buffer of a plane.
use Rattle.std.specs.Prelude.{ℕ, ◌≡◌, List, length}
use Rattle.v_frame_buffer.specs.Part.{with_part}
use Rattle.v_frame_raster.specs.Geometry.{place_of}
use Rattle.v_frame_raster.specs.Raster.{Raster, raster}
use Rattle.v_frame_raster.specs.Writes.{WritesRow}

module _ {T : Type 0} where
  -- The plane with the visible pixels of row y replaced.
  abbrev pub with_row : Raster T → ℕ → List T → Raster T
  with_row plane y row =
      raster plane.geometry (with_part plane.buffer (place_of plane.geometry 0 y) row)

  -- Any row with the length of the old one can be written as row y of the table.
  abbrev pub WritesEachRow : Raster T → ℕ → List T → Type 0
  WritesEachRow plane y old =
      (row : List T) → length row ≡ length old → WritesRow plane y (with_row plane y row) row
