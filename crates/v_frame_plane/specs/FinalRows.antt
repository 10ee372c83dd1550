-- The final values of the rows that an iterator lends for writing.
use Rattle.std.specs.Prelude.{ℕ, zero, suc, ◌≡◌, List, [], ◌∷◌, ◌++◌, length, map, take, drop, Option}
use Rattle.std.specs.Borrow.{Fml, GName, RattleType, MutBor, Array}
use base.Fml.{fsep, fwand, fall, fres}
pub use Rattle.v_frame_raster.specs.Writes.{WritesTable}
use Rattle.v_frame_raster.specs.Raster.{Raster, table_of, with_entries}
use Rattle.v_frame_plane.specs.FinalItems.{Keeps, LendsBy, Takes}
use Rattle.v_frame_plane.specs.RowsLeft.{rows_left}
use Rattle.v_frame_plane.specs.declared.rows_mut.RowsMut.{RowsMut}

module _ {T : Type 0} where
  -- The entries with the rows ahead overwritten by these rows. If there are fewer rows, the other
  -- entries are unchanged.
  abbrev pub with_rows_ahead : ℕ → ℕ → ℕ → ℕ → List T → List (List T) → List T
  with_rows_ahead start width gap zero entries rows = entries
  with_rows_ahead start width gap (suc count) entries [] = entries
  with_rows_ahead start width gap (suc count) entries (row ∷ rows) =
      take start entries
      ++ (row ++ with_rows_ahead gap width gap count (drop width (drop start entries)) rows)

  -- The slice of an iterator with its remaining rows replaced.
  abbrev pub entries_with : RowsMut T → List (List T) → List T
  entries_with walk = with_rows_ahead walk.start walk.width walk.gap walk.count walk.rest.now

  -- Any table whose rows have the lengths of the plane's rows can be written through the rows of
  -- the iterator.
  unfoldable pub WritesEachTable : Raster T → RowsMut T → Type 0
  WritesEachTable plane walk =
      (rows : List (List T)) → map length rows ≡ map length (table_of plane)
      → WritesTable plane (with_entries plane (entries_with walk rows)) rows

module _ (T : RattleType) where
  -- When its borrow ends, the slice with this name has these entries.
  abbrev pub EndsAs : GName → List T.Denot → Fml
  EndsAs name entries = fres name ((Array T 0).coded.code entries)

  -- When the borrow ends, the remaining rows of the iterator have these pixels.
  unfoldable pub FinalRows : RowsMut T.Denot → List (List T.Denot) → Fml
  FinalRows walk second = EndsAs walk.rest.ghost_name (entries_with walk second)

  -- The remaining rows before and after have equal final values.
  abbrev pub KeepsRows : RowsMut T.Denot → RowsMut T.Denot → Fml
  KeepsRows = Keeps EndsAs FinalRows

  -- The effect of taking the first row.
  abbrev pub TakesFirstRow : RowsMut T.Denot → RowsMut T.Denot → MutBor (List T.Denot) → Fml
  TakesFirstRow = Takes EndsAs FinalRows ◌∷◌

  -- The effect of taking the last row. The number of the rows that remain must not change.
  abbrev pub TakesLastRow : RowsMut T.Denot → RowsMut T.Denot → MutBor (List T.Denot) → Fml
  TakesLastRow old new row =
      fall (List T.Denot × List (List T.Denot)) (λ held.
      fall (length held.1 ≡ length (rows_left new)) (λ _.
      fwand (fsep (EndsAs row.ghost_name held.0) (FinalRows new held.1))
      (FinalRows old (held.1 ++ held.0 ∷ []))))

  -- The effect of `next`: the final values of the rows before are those of the remaining rows, with
  -- the final value of the yielded row in front of them.
  abbrev pub LendsFirstRow : RowsMut T.Denot → Option (MutBor (List T.Denot)) → RowsMut T.Denot
      → Fml
  LendsFirstRow = LendsBy KeepsRows TakesFirstRow

  -- The effect of `next_back`: the final values of the rows before are those of the remaining rows,
  -- with the final value of the yielded row after them.
  abbrev pub LendsLastRow : RowsMut T.Denot → Option (MutBor (List T.Denot)) → RowsMut T.Denot → Fml
  LendsLastRow = LendsBy KeepsRows TakesLastRow
