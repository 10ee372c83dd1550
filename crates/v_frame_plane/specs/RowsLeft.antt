-- The remaining rows of an iterator that lends rows for writing.
use Rattle.std.specs.Prelude.{List}
use Rattle.std.specs.Borrow.{MutBor}
use Rattle.std.specs.Iterator.{YieldsFirstMut, YieldsLastMut}
use Rattle.std.specs.Iterator.Runs.{YieldsMutRefsInOrder, YieldsMutRefsInReverse}
use Rattle.v_frame_plane.specs.Cursor.{rows_ahead}
use Rattle.v_frame_plane.specs.declared.rows_mut.RowsMut.{RowsMut}

-- The remaining rows, with their current pixels.
unfoldable pub rows_left : {T : Type 0} → RowsMut T → List (List T)
rows_left walk = rows_ahead walk.start walk.width walk.gap walk.count walk.rest.now

-- The slice from which the iterator lends parts. It is the whole buffer until a row is taken.
abbrev pub rows_slice : {T : Type 0} → RowsMut T → MutBor (List T)
rows_slice walk = walk.rest

module _ (T : Type 0) where
  -- Calls from the front lend the remaining rows in order.
  abbrev pub LendsRowsInOrder : Type 0
  LendsRowsInOrder = YieldsMutRefsInOrder (YieldsFirstMut (rows_left {T = T})) rows_left

  -- Calls from the back lend the remaining rows in reverse order.
  abbrev pub LendsRowsInReverse : Type 0
  LendsRowsInReverse = YieldsMutRefsInReverse (YieldsLastMut (rows_left {T = T})) rows_left
