-- The two ends of an iterator that lends pixels, so that one definition and one proof cover both.
-- - near, far: the begun row at this end, and the begun row at the other end.
-- - slot, offset: the number of the field of this end, and its offset in bytes.
-- - at_side, by_side: the one of two values, or of two proofs, for this end.
-- - put: the list with a pixel put back at this end.
-- - walk_by: the iterator with these parts, as seen from this end.
-- - Steps, Yields, Takes, Lends: the clauses of a call that takes a pixel from this end.
-- - RowSteps, YieldsRow, LendsRow: the clauses of a call that takes a row from this end.
use Rattle.v_frame_buffer.proofs.Steps.{ℕ, ◌≡◌, List, [], ◌∷◌, ◌++◌, Option, Some, None, MutBor, YieldsFirstMut}
use Rattle.v_frame_buffer.proofs.Steps.{YieldsLastMut, Fml, RattleType}
use Rattle.v_frame_plane.specs.{Cursor.PixelsAreCountable, PixelsLeft.pixels_left, RowsLeft.rows_left}
use Rattle.v_frame_plane.specs.{FinalItems.LendsBy, FinalItems.Takes as TakesItem, FinalPixels.KeepsPixels}
use Rattle.v_frame_plane.specs.{FinalPixels.PixelEndsAs, FinalPixels.FinalPixels, FinalRows.LendsFirstRow}
use Rattle.v_frame_plane.specs.{FinalRows.LendsLastRow, declared.pixels_mut.PixelsMut.PixelsMut}
use Rattle.v_frame_plane.specs.{declared.rows_mut.RowsMut.RowsMut}
use Rattle.v_frame_plane.proofs.lent.{PixelMemory.back_offset}

pub data Side : Type 0 where
  at_front at_back : Side

abbrev pub at_side {ℓ} : {X : Type ℓ} → Side → X → X → X
at_side at_front x y = x
at_side at_back x y = y

pub by_side {ℓ} : (P : Side → Type ℓ) → P at_front → P at_back → (s : Side) → P s
by_side P x y at_front = x
by_side P x y at_back = y

abbrev pub slot : Side → ℕ
slot s = at_side s 0 2

abbrev pub other : Side → Side
other s = at_side s at_back at_front

-- The offset of this field in bytes.
abbrev pub offset : Side → ℕ
offset s = at_side s 0 back_offset

abbrev pub put : {X : Type 0} → Side → X → List X → List X
put s pixel rest = at_side s (pixel ∷ rest) (rest ++ pixel ∷ [])

module _ {X : Type 0} where
  abbrev pub near : Side → PixelsMut X → MutBor (List X)
  near s walk = at_side s walk.front walk.back

  abbrev pub far : Side → PixelsMut X → MutBor (List X)
  far s = near (other s)

  abbrev pub Countable : Side → List X → List (List X) → List X → Type 0
  Countable s near rows far = PixelsAreCountable (at_side s near far) rows (at_side s far near)

  abbrev pub walk_by : (s : Side) (near : MutBor (List X)) (rows : RowsMut X) (far : MutBor (List X)) → Countable s
      near.now (rows_left rows) far.now →
      PixelsMut X
  walk_by at_front near rows far countable = record { front = near; rows = rows; back = far; countable = countable }
  walk_by at_back near rows far countable = record { front = far; rows = rows; back = near; countable = countable }

  abbrev pub Steps : Side → PixelsMut X → MutBor X → PixelsMut X → Type 0
  Steps s old pixel new = pixels_left old ≡ put s pixel.now (pixels_left new)

  abbrev pub Yields : Side → PixelsMut X → Option (MutBor X) → PixelsMut X → Type 0
  Yields s = at_side s (YieldsFirstMut pixels_left) (YieldsLastMut pixels_left)

  abbrev pub RowSteps : Side → RowsMut X → List X → RowsMut X → Type 0
  RowSteps s old row new = rows_left old ≡ put s row (rows_left new)

  abbrev pub YieldsRow : Side → RowsMut X → Option (MutBor (List X)) → RowsMut X → Type 0
  YieldsRow s = at_side s (YieldsFirstMut rows_left) (YieldsLastMut rows_left)

  pub row_steps : (s : Side) (old : RowsMut X) (row : MutBor (List X)) (new : RowsMut X) → YieldsRow s old (Some row)
      new → RowSteps s old row.now new
  row_steps s old row new = by_side (λ e. YieldsRow e old (Some row) new → RowSteps e old row.now new) (λ steps. steps)
      (λ steps. steps) s

  pub no_rows : (s : Side) (old new : RowsMut X) → YieldsRow s old None new → (rows_left old ≡ []) ×
      (rows_left new ≡ [])
  no_rows s old new = by_side (λ e. YieldsRow e old None new → (rows_left old ≡ []) × (rows_left new ≡ []))
      (λ none. none) (λ none. none) s

-- This pixel is taken at this end. The final values of the pixels before are those of the remaining pixels together
-- with its own.
abbrev pub Takes : Side → (T : RattleType) → PixelsMut T.Denot → MutBor T.Denot → PixelsMut T.Denot → Fml
Takes s T old pixel new = TakesItem (PixelEndsAs T) (FinalPixels T) (put s) old new pixel

abbrev pub Lends : Side → (T : RattleType) → PixelsMut T.Denot → Option (MutBor T.Denot) → PixelsMut T.Denot → Fml
Lends s T = LendsBy (KeepsPixels T) (λ old new pixel. Takes s T old pixel new)

abbrev pub LendsRow : Side → (T : RattleType) → RowsMut T.Denot → Option (MutBor (List T.Denot)) → RowsMut T.Denot → Fml
LendsRow s = at_side s LendsFirstRow LendsLastRow
