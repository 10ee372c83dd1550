-- The effect of an iterator that writes: the items that calls of `next` and `next_back` took are put back with their
-- final values.
use Rattle.std.proofs.Common.{Bool, true, false, ℕ, ◌≡◌, ◌+◌, ◌-◌, ◌<◌, ◌≤◌, if◌then◌else◌, List, [], ◌∷◌, ◌++◌, length}
use Rattle.std.proofs.Common.{map, take, Option, Some, None}
use Rattle.std.proofs.Common.{All, MutBor, get_or, slice_get, refl, sym, ◌∙◌, ap, arith, append-nil, length-append}
use Rattle.std.proofs.Math.Seq.{map-set_same, take-append_seam}
use Rattle.std.proofs.lemmas.List.Elements.{All-head, All-tail}
use Rattle.std.proofs.lemmas.Option.{get_or_from_slice_get}
use Rattle.std.proofs.lemmas.Bool.{le-ltb, lt-ltb}
use Rattle.std.specs.Iterator.{YieldsFirstMut, YieldsLastMut}
use Rattle.std.specs.Option.{option_copied_mut}
use Rattle.v_frame_raster.proofs.tables.Lists.{slice_get-at}
use Rattle.v_frame.specs.DrawnItems.{put_back, put_back_in_turn}
use Rattle.v_frame.specs.Walk.{item_from, remaining_after, remaining_in_turn, changed_by, changed_after, walk_leaves}
use Rattle.v_frame.specs.Walk.{side_of_row, row_written, rows_written}
use Rattle.v_frame.specs.declared.replay.draw.Side.{Side, TheVariants.Front, TheVariants.Back}
use Rattle.v_frame.specs.declared.replay.draw.RowDraw.{RowDraw}
use Rattle.v_frame_raster.specs.Table.{with_item_by}
use Rattle.v_frame_raster.proofs.tables.Overwrites.{length-overwritten_row}
use Rattle.std.proofs.lemmas.List.{map-append}
use Rattle.v_frame.proofs.SharedItems.{nth_of, take-nth}
use Rattle.v_frame.proofs.Draws.{AreTaken, at_number, back_with, fewer, front_with, left-push, length_around}
use Rattle.v_frame.proofs.Draws.{put_between, taken, taken_more}

module _ {W X : Type 0} (items : W → List X) (old : W) where
  -- A call yields the item at its side, and leaves the others.
  pub first_drawn : (r : Option (MutBor X)) (new : W) → YieldsFirstMut items old r new
      → (option_copied_mut r ≡ item_from Front (items old)) × (items new ≡ remaining_after Front (items old))
  first_drawn None new is = rw (is.0, is.1) (refl, refl)
  first_drawn (Some item) new is = rw is (refl, refl)

  pub last_drawn : (r : Option (MutBor X)) (new : W) → YieldsLastMut items old r new
      → (option_copied_mut r ≡ item_from Back (items old)) × (items new ≡ remaining_after Back (items old))
  last_drawn None new is = rw (is.0, is.1) (refl, refl)
  last_drawn (Some item) new is =
      let behind : length (items new ++ item.now ∷ []) - 1 ≡ length (items new) = omega
      (arith, length-append (items new) (item.now ∷ [])) in
      rw (is, behind) (sym (slice_get-at (items new) item.now []), sym (take-append_seam (items new) (item.now ∷ [])))

module _ {X : Type 0} where
  -- Putting an item back restores the length of the list.
  pub length-put_back : (side : Side) (change : X → X) (items left : List X) → length left ≡ length
      (remaining_after side items) →
      length (put_back side change (item_from side items) left) ≡ length items
  length-put_back Front change [] left same = same
  length-put_back Back change [] left same = same
  length-put_back Front change (x ∷ xs) left same = omega arith
  length-put_back Back change (x ∷ xs) left same =
      let last = taken Back x xs in
      rw (last.1) (omega (arith, length-append left (change last.0 ∷ []), fewer Back (x ∷ xs)))

  put_none : (side : Side) (change : X → X) (rest : List X → List X) → put_back side change (item_from side [])
      (rest (remaining_after side [])) ≡ rest []
  put_none Front change rest = refl
  put_none Back change rest = refl

module _ {X D : Type 0} (side_of : D → Side) (make : D → X → X) where
  -- Calls after the last item change nothing.
  unchanged : (items : List X) (before : List Side) (draws : List D) → length items ≤ length before → changed_after
      side_of make items before draws ≡ items
  unchanged items before [] none = refl
  unchanged items before (draw ∷ draws) none = rw (le-ltb (length before) (length items) none)
      (unchanged items (before ++ side_of draw ∷ []) draws (omega (arith, length-append before (side_of draw ∷ []))))

  abbrev Back_in_turn : List X → List D → List X → List X
  Back_in_turn = put_back_in_turn side_of make

  -- The list after the items of all calls are put back. The remaining items are unchanged.
  abbrev All_back : List X → List D → List X
  All_back items draws = Back_in_turn items draws (remaining_in_turn items (map side_of draws))

  -- Items that more calls put back are put back by the later calls first, and then by the earlier ones.
  pub put_back-append : (items : List X) (draws more : List D) (left : List X) → Back_in_turn items (draws ++ more)
      left ≡
      Back_in_turn items draws (Back_in_turn (remaining_in_turn items (map side_of draws)) more left)
  put_back-append items [] more left = refl
  put_back-append items (draw ∷ draws) more left =
      ap (put_back (side_of draw) (make draw) (item_from (side_of draw) items))
      (put_back-append (remaining_after (side_of draw) items) draws more left)

  -- If no item remains, calls change nothing.
  put_back_none : (draws : List D) → All_back [] draws ≡ []
  put_back_none [] = refl
  put_back_none (draw ∷ draws) = put_none (side_of draw) (make draw) (λ items. All_back items draws) ∙ put_back_none
      draws

  -- The remaining items lie between those that the calls took.
  put_back_between : (front items back : List X) (before : List Side) (draws : List D) → AreTaken front back before →
      changed_after side_of make (front ++ (items ++ back)) before draws ≡ front ++ (All_back items draws ++ back)
  put_back_between front items back before [] so_far = refl
  put_back_between front [] back before (draw ∷ draws) so_far = rw (put_back_none (draw ∷ draws))
      (unchanged (front ++ back) before (draw ∷ draws) (omega (arith, length_around front [] back before so_far)))
  put_back_between front (x ∷ xs) back before (draw ∷ draws) so_far =
      let all = front ++ (x ∷ xs ++ back) in
      let side = side_of draw in
      let left = remaining_after side (x ∷ xs) in
      let r = taken side x xs in
      let item = make draw r.0 in
      let more : length before < length all = omega (arith, length_around front (x ∷ xs) back before so_far) in
      let at = at_number side x xs front back before so_far in
      let one : changed_by side_of make all before draw ≡ front_with side item front ++
      (left ++ back_with side item back) =
      rw (lt-ltb (length before) (length all) more, at.0, r.1) (at.1 item) in
      rw (one, r.1, put_between side (make draw) r.0 front (All_back left draws) back)
      (put_back_between (front_with side item front) left
      (back_with side item back) (before ++ side ∷ []) draws (taken_more side item front back before so_far))

  -- With all items put back, the list is the one that the iteration leaves.
  pub put_back_all : (items : List X) (draws : List D) → All_back items draws ≡ walk_leaves side_of make items draws
  put_back_all items draws =
      sym (simp append-nil at (put_back_between [] items [] [] draws (record { from_front = refl; from_back = refl })))

  module _ {B : Type 0} (f : X → B) where
    -- A call that changes an item without changing its value under f.
    abbrev pub Keeps : D → Type 0
    Keeps draw = (item : X) → f (make draw item) ≡ f item

    kept_by : (draw : D) (items : List X) (n : ℕ) (more : Bool) (item : Option X) → Keeps draw →
        slice_get items n ≡ item → map f (if more then with_item_by (make draw) items n item else items) ≡ map f items
    kept_by draw items n true (Some item) keeps is =
        map-set_same f items n (make draw item) item
        (keeps item ∙ ap f (sym (get_or_from_slice_get items n item item is)))
    kept_by draw items n true None keeps is = refl
    kept_by draw items n false item keeps is = refl

    pub kept_after : (items : List X) (before : List Side) (draws : List D) → All Keeps draws →
        map f (changed_after side_of make items before draws) ≡ map f items
    kept_after items before [] keep = refl
    kept_after items before (draw ∷ draws) keep =
        kept_after (changed_by side_of make items before draw) (before ++ side_of draw ∷ []) draws
        (All-tail Keeps draw draws keep) ∙ kept_by draw items _ _ _ (All-head Keeps draw draws keep) refl

-- The rows of a table keep their width.
pub rows_as_long : {T : Type 0} (rows : List (List T)) (draws : List (RowDraw T)) →
    map length (rows_written rows draws) ≡ map length rows
rows_as_long rows draws = kept_after side_of_row row_written length rows [] draws
    (λ k d h row. length-overwritten_row row (get_or draws k d).writes)

-- The items that remain after the draw with index i.
pub nth_left : {X D : Type 0} (side_of : D → Side) (items : List X) (draws : List D) (i : ℕ) (h : i < length draws)
    (left more : List X) →
    left ≡ remaining_in_turn items (map side_of (take i draws)) → more ≡ remaining_after (side_of (nth_of draws i h))
    left
    → more ≡ remaining_in_turn items (map side_of (take (i + 1) draws))
nth_left side_of items draws i h left more so_far less = rw (take-nth draws i h, map-append, left-push, ← so_far) less
