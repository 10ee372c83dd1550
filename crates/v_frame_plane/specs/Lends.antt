-- The final state of a plane after a `&mut` into its buffer was lent.
use Rattle.std.specs.Prelude.{ℕ, ◌≡◌, List, length, Option, IfSome}
use Rattle.std.specs.Borrow.{Lends, LendsBoth, LendsIf, LendsSo, Fml, RattleType, MutBor, Array}
use Rattle.v_frame_raster.specs.Geometry.{Geometry}
use Rattle.v_frame_raster.specs.Raster.{Raster, raster, with_entries}
use Rattle.v_frame_raster.specs.Writes.{WritesRow, with_entry, entries_with_row, entries_with_rows}
use Rattle.v_frame_plane.specs.Plane.{with_row}
use Rattle.v_frame_plane.specs.Visible.{with_visible, with_visible_from}
use Rattle.v_frame_plane.specs.contracts.plane.Plane.{the_row}

module _ (T : RattleType) (plane : MutBor (Raster T.Denot)) where
  -- When the borrow r ends, the buffer is the final value of r.
  abbrev pub LendsBuffer : MutBor (List T.Denot) → Fml
  LendsBuffer r = Lends (the_row T) (Array T 0) plane r (with_entries plane.now)

  -- When the borrow r ends, the entries from the first visible pixel on are the final entries of r.
  abbrev pub LendsVisible : MutBor (List T.Denot) → Fml
  LendsVisible r = Lends (the_row T) (Array T 0) plane r (with_visible plane.now)

  -- When the borrow r ends, the entries from the pixel in column x of row y on are the final
  -- entries of r.
  abbrev pub LendsVisibleFrom : ℕ → ℕ → MutBor (List T.Denot) → Fml
  LendsVisibleFrom x y r = Lends (the_row T) (Array T 0) plane r (with_visible_from plane.now x y)

  -- When the borrow r ends, the visible pixels of row y are the final entries of r.
  abbrev pub LendsVisibleRow : ℕ → MutBor (List T.Denot) → Fml
  LendsVisibleRow y r = Lends (the_row T) (Array T 0) plane r (with_row plane.now y)

  -- When the borrow r ends, row y of the table is the final value of r, and everything else is
  -- unchanged. The length of r does not change.
  abbrev pub LendsRow : ℕ → Option (MutBor (List T.Denot)) → Fml
  LendsRow y r =
      LendsSo (the_row T) (Array T 0) plane r
      (λ new row. IfSome r (λ lent. length row ≡ length lent.now → WritesRow plane.now y new row))
      (λ new. new ≡ plane.now)

  -- When the borrow r ends, the entry at the index of (x, y) is the final value of r, and
  -- everything else is unchanged.
  abbrev pub LendsVisiblePixel : ℕ → ℕ → MutBor T.Denot → Fml
  LendsVisiblePixel x y r = Lends (the_row T) T plane r (with_entry plane.now x y)

  -- When the borrow r ends, the entry at the index of (x, y) is the final value of r. If there is
  -- no such entry, nothing is lent and the plane is unchanged.
  abbrev pub LendsPixel : ℕ → ℕ → Option (MutBor T.Denot) → Fml
  LendsPixel x y r = LendsIf (the_row T) T plane r (with_entry plane.now x y) plane.now

-- When the borrows of a row of a whole buffer and of the entries after it end, the entries from the
-- start of row y on are their final entries.
abbrev pub LendsRowAndRest : (T : RattleType) → MutBor (List T.Denot) → Geometry → ℕ
    → MutBor (List T.Denot) × MutBor (List T.Denot) → Fml
LendsRowAndRest T buffer geometry y parts =
    LendsBoth (Array T 0) (Array T 0) (Array T 0) buffer parts
    (entries_with_row (raster geometry buffer.now) y)

-- When the borrows of two rows of a whole buffer end, the visible pixels of rows y and z are their
-- final entries.
abbrev pub LendsVisibleRows : (T : RattleType) → MutBor (List T.Denot) → Geometry → ℕ → ℕ
    → MutBor (List T.Denot) × MutBor (List T.Denot) → Fml
LendsVisibleRows T buffer geometry y z rows =
    LendsBoth (Array T 0) (Array T 0) (Array T 0) buffer rows
    (entries_with_rows (raster geometry buffer.now) y z)
