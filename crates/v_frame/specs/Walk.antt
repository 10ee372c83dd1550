-- Double-ended iterators over a list of any items, and the effect of writing through the items.
-- Each call is `next`, which takes an item from the front, or `next_back`, which takes an item from
-- the back.
use Rattle.std.specs.Prelude.{ℕ, ◌≡◌, ◌-◌, nat_lt, if◌then◌else◌, Bool, true, false, not, List, [], ◌∷◌, ◌++◌, length}
use Rattle.std.specs.Prelude.{map, take, drop, reverse, count_by, Option, Some, None, unwrap_or, slice_get}
use Rattle.std.specs.Option.{option_to_list}
use Rattle.v_frame_raster.specs.Table.{Table, width_of, height_of, row_major, cut_rows, overwritten_row, with_item_by}
use Rattle.v_frame.specs.declared.replay.draw.Side.{Side}
use Rattle.v_frame.specs.declared.replay.draw.Side.TheVariants.{Front, Back}
use Rattle.v_frame.specs.declared.replay.draw.Drawn.{Drawn}
use Rattle.v_frame.specs.declared.replay.draw.RowDraw.{RowDraw}
use Rattle.v_frame.specs.declared.replay.draw.PixelDraw.{PixelDraw}

-- The side is the front.
abbrev pub is_front : Side → Bool
is_front Front = true
is_front Back = false

-- The number of calls from the front.
abbrev pub fronts : List Side → ℕ
fronts sides = count_by is_front sides

-- The number of calls from the back.
abbrev pub backs : List Side → ℕ
backs sides = count_by (λ side. not (is_front side)) sides

-- The index of the item that a call takes from a number of items, after the calls before it.
abbrev pub number_of_item : Side → ℕ → List Side → ℕ
number_of_item Front items before = fronts before
number_of_item Back items before = items - 1 - backs before

module _ {X : Type 0} where
  -- The item that a call from this side takes. Between two calls, an iterator is the list of the
  -- remaining items, and a call takes the first or the last of them, if there is one.
  abbrev pub item_from : Side → List X → Option X
  item_from Front items = slice_get items 0
  item_from Back items = slice_get items (length items - 1)

  -- The items that remain after a call from this side.
  abbrev pub remaining_after : Side → List X → List X
  remaining_after Front items = drop 1 items
  remaining_after Back items = take (length items - 1) items

  -- The results of a series of calls, executed in turn.
  abbrev pub drawn_in_turn : List X → List Side → List (Drawn X)
  drawn_in_turn items [] = []
  drawn_in_turn items (side ∷ sides) =
      record { item = item_from side items; left = length (remaining_after side items) }
      ∷ drawn_in_turn (remaining_after side items) sides

  -- The items that remain after a series of calls, executed in turn.
  abbrev pub remaining_in_turn : List X → List Side → List X
  remaining_in_turn items [] = items
  remaining_in_turn items (side ∷ sides) = remaining_in_turn (remaining_after side items) sides

  -- The item that a call takes after the calls before it, computed from the number of these calls.
  -- There is no item if as many calls as items came before.
  abbrev pub item_after : List X → List Side → Side → Option X
  item_after items before side =
      if nat_lt (length before) (length items)
      then slice_get items (number_of_item side (length items) before) else None

  -- The results of calls after those before them, with the number of items that remain after each.
  abbrev pub drawn_after : List X → List Side → List Side → List (Drawn X)
  drawn_after items before [] = []
  drawn_after items before (side ∷ sides) =
      record { item = item_after items before side; left = length items - length before - 1 }
      ∷ drawn_after items (before ++ side ∷ []) sides

  -- The results of the calls on an iterator.
  abbrev pub draws_answer : List X → List Side → List (Drawn X)
  draws_answer items sides = drawn_after items [] sides

  -- The item of one call, if the call was made from the given side.
  abbrev pub given_by : Side → Side → Option X → List X
  given_by Front Front item = option_to_list item
  given_by Front Back item = []
  given_by Back Front item = []
  given_by Back Back item = option_to_list item

  -- The items that were taken from one side, in the order of the calls.
  abbrev pub given_from : Side → List Side → List (Drawn X) → List X
  given_from side [] answers = []
  given_from side (drawn ∷ sides) [] = []
  given_from side (drawn ∷ sides) (answer ∷ answers) =
      given_by side drawn answer.item ++ given_from side sides answers

-- The results computed from the numbers of calls are the results of the calls in turn.
abbrev pub AreCounted : Type 0 → Type 0
AreCounted X =
    (items : List X) (sides : List Side) → draws_answer items sides ≡ drawn_in_turn items sides

-- The calls from the front took the first items in order, the calls from the back took the last
-- items in reverse order, and the remaining items are those between.
abbrev pub AreDrawnOnce : {X : Type 0} → List X → List Side → List (Drawn X) → Type 0
AreDrawnOnce items sides answers =
    items ≡ given_from Front sides answers
    ++ (remaining_in_turn items sides ++ reverse (given_from Back sides answers))

-- The calls took all items: those from the front in order, and those from the back in reverse
-- order.
abbrev pub AreAllGiven : {X : Type 0} → List X → List Side → List (Drawn X) → Type 0
AreAllGiven items sides answers =
    items ≡ given_from Front sides answers ++ reverse (given_from Back sides answers)

-- The effect of an iteration that writes: an item that no call took is unchanged, and an item that
-- a call took has the value written for that call.

-- Calls of any kind. Each has a side, and changes the item that it takes.
module _ {X D : Type 0} (side_of : D → Side) (make : D → X → X) where
  -- A call after others changes the item that it takes. Nothing changes if as many calls as items
  -- came before.
  abbrev pub changed_by : List X → List Side → D → List X
  changed_by items before draw =
      let number : ℕ = number_of_item (side_of draw) (length items) before in
      if nat_lt (length before) (length items)
      then with_item_by (make draw) items number (slice_get items number) else items

  -- The items after a series of calls that follows others.
  abbrev pub changed_after : List X → List Side → List D → List X
  changed_after items before [] = items
  changed_after items before (draw ∷ draws) =
      changed_after (changed_by items before draw) (before ++ side_of draw ∷ []) draws

  -- The items after the calls on an iterator.
  abbrev pub walk_leaves : List X → List D → List X
  walk_leaves items draws = changed_after items [] draws

module _ {T : Type 0} where
  -- The side from which a call takes a row.
  abbrev pub side_of_row : RowDraw T → Side
  side_of_row draw = draw.side

  -- The side from which a call takes a pixel.
  abbrev pub side_of_pixel : PixelDraw T → Side
  side_of_pixel draw = draw.side

  -- The row that a call took, overwritten with the writes of the call.
  abbrev pub row_written : RowDraw T → List T → List T
  row_written draw row = overwritten_row row draw.writes

  -- The pixel that a call took, replaced if the call has a value.
  abbrev pub pixel_written : PixelDraw T → T → T
  pixel_written draw pixel = unwrap_or draw.value pixel

  -- The table after an iteration that writes its rows.
  abbrev pub rows_written : Table T → List (RowDraw T) → Table T
  rows_written rows draws = walk_leaves side_of_row row_written rows draws

  -- The table after an iteration that writes its pixels: the resulting pixels, cut into rows again.
  abbrev pub pixels_written : Table T → List (PixelDraw T) → Table T
  pixels_written rows draws =
      cut_rows (width_of rows) (height_of rows)
      (walk_leaves side_of_pixel pixel_written (row_major rows) draws)

  -- A call from the front that replaces the pixel.
  abbrev pub front_draw : T → PixelDraw T
  front_draw value = record { side = Front; value = Some value }

  -- An iteration from the front that replaces each pixel with the result of a function changes each
  -- pixel of the table by this function.
  abbrev pub ChangesEachPixel : Table T → Type 0
  ChangesEachPixel rows =
      (change : T → T)
      → pixels_written rows (map (λ pixel. front_draw (change pixel)) (row_major rows))
      ≡ map (map change) rows
