-- The remaining pixels of an iterator that lends pixels for writing.
use Rattle.std.specs.Prelude.{List, ◌++◌}
use Rattle.std.specs.Borrow.{MutBor}
use Rattle.std.specs.Iterator.{YieldsFirstMut, YieldsLastMut}
use Rattle.std.specs.Iterator.Runs.{YieldsMutRefsInOrder, YieldsMutRefsInReverse}
use Rattle.v_frame_raster.specs.Table.{row_major}
use Rattle.v_frame_plane.specs.RowsLeft.{rows_left, rows_slice}
use Rattle.v_frame_plane.specs.declared.pixels_mut.PixelsMut.{PixelsMut}

-- The remaining pixels, with their current values.
abbrev pub pixels_left : {T : Type 0} → PixelsMut T → List T
pixels_left walk = walk.front.now ++ (row_major (rows_left walk.rows) ++ walk.back.now)

-- The slice from which the iterator lends parts. It is the whole buffer until a row is begun.
abbrev pub pixels_slice : {T : Type 0} → PixelsMut T → MutBor (List T)
pixels_slice walk = rows_slice walk.rows

module _ (T : Type 0) where
  -- Calls from the front lend the remaining pixels in order.
  abbrev pub LendsPixelsInOrder : Type 0
  LendsPixelsInOrder = YieldsMutRefsInOrder (YieldsFirstMut (pixels_left {T = T})) pixels_left

  -- Calls from the back lend the remaining pixels in reverse order.
  abbrev pub LendsPixelsInReverse : Type 0
  LendsPixelsInReverse = YieldsMutRefsInReverse (YieldsLastMut (pixels_left {T = T})) pixels_left
