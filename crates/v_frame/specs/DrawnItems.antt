-- The effect of writing through the items of an iterator. When the borrow ends, each item that a
-- call of `next` or `next_back` took has the value that the caller gave it, at the position from
-- which the call took it.
use Rattle.std.specs.Prelude.{◌≡◌, List, [], ◌∷◌, ◌++◌, length, Option, Some, None}
use Rattle.std.specs.Borrow.{Fml, RattleType}
use base.Fml.{fwand, fall}
use Rattle.v_frame_plane.specs.PixelsLeft.{pixels_left}
use Rattle.v_frame_plane.specs.RowsLeft.{rows_left}
use Rattle.v_frame_plane.specs.FinalPixels.{FinalPixels}
use Rattle.v_frame_plane.specs.FinalRows.{FinalRows}
use Rattle.v_frame_plane.specs.declared.pixels_mut.PixelsMut.{PixelsMut}
use Rattle.v_frame_plane.specs.declared.rows_mut.RowsMut.{RowsMut}
use Rattle.v_frame.specs.Walk.{item_from, remaining_after, side_of_row, row_written, side_of_pixel, pixel_written}
use Rattle.v_frame.specs.declared.replay.draw.Side.{Side}
use Rattle.v_frame.specs.declared.replay.draw.Side.TheVariants.{Front, Back}
use Rattle.v_frame.specs.declared.replay.draw.PixelDraw.{PixelDraw}
use Rattle.v_frame.specs.declared.replay.draw.RowDraw.{RowDraw}

-- The item that was taken from a side is put back there with its changed value, if an item was
-- taken.
abbrev pub put_back : {X : Type 0} → Side → (X → X) → Option X → List X → List X
put_back side change None items = items
put_back Front change (Some item) items = change item ∷ items
put_back Back change (Some item) items = items ++ change item ∷ []

-- Calls of any kind. Each has a side, and changes the item that it takes.
module _ {X D : Type 0} (side_of : D → Side) (make : D → X → X) where
  -- The items that a series of calls took are put back, from the last call to the first.
  abbrev pub put_back_in_turn : List X → List D → List X → List X
  put_back_in_turn items [] remaining = remaining
  put_back_in_turn items (draw ∷ draws) remaining =
      let side : Side = side_of draw in
      put_back side (make draw) (item_from side items)
      (put_back_in_turn (remaining_after side items) draws remaining)

-- For an iterator of any kind, the final values of the items before a series of calls are the final
-- values of the items that remain, with the items that the calls took put back.
module _ {W X D : Type 0} (items : W → List X) (second : W → List X → Fml) (side_of : D → Side)
    (make : D → X → X) where
  abbrev pub PutsBack : List D → W → W → Fml
  PutsBack draws old new =
      fall (List X) (λ remaining.
      fall (length remaining ≡ length (items new)) (λ _.
      fwand (second new remaining)
      (second old (put_back_in_turn side_of make (items old) draws remaining))))

module _ (T : RattleType) where
  -- The rows that a series of calls took are put back.
  abbrev pub PutsRowsBack : List (RowDraw T.Denot) → RowsMut T.Denot → RowsMut T.Denot → Fml
  PutsRowsBack = PutsBack rows_left (FinalRows T) side_of_row row_written

  -- The pixels that a series of calls took are put back.
  abbrev pub PutsPixelsBack : List (PixelDraw T.Denot) → PixelsMut T.Denot → PixelsMut T.Denot → Fml
  PutsPixelsBack = PutsBack pixels_left (FinalPixels T) side_of_pixel pixel_written
