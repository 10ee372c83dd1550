-- The items that calls of `next` and `next_back` yield by number are those that they yield in turn, and each item is
-- yielded once.
use Rattle.std.proofs.Common.{ℕ, ◌≡◌, ◌+◌, ◌-◌, ◌<◌, ◌≤◌, cond, not, suc, List, [], ◌∷◌, ◌++◌, length, map, take}
use Rattle.std.proofs.Common.{reverse, Option, Some, None, slice_get, slice_set, get_or, refl, sym, ◌∙◌, ap, arith}
use Rattle.std.proofs.Common.{append-nil, append_assoc, length-append, length-take-le, length-drop}
use Rattle.std.proofs.lemmas.Bool.{lt-ltb, le-ltb}
use Rattle.std.proofs.lemmas.List.{map-id, take_all, take_more, nil_from_length, reverse-append}
use Rattle.std.proofs.lemmas.List.Sums.{sum_by-append}
use Rattle.v_frame.specs.declared.replay.draw.Side.{Side, TheVariants.Front, TheVariants.Back}
use Rattle.v_frame.specs.declared.replay.draw.Drawn.{Drawn}
use Rattle.v_frame.specs.Walk.{is_front, fronts, backs, number_of_item, item_from, remaining_after, drawn_in_turn}
use Rattle.v_frame.specs.Walk.{remaining_in_turn, item_after, drawn_after}
use Rattle.v_frame.specs.Walk.{draws_answer, given_by, AreCounted, AreDrawnOnce, AreAllGiven}
use Rattle.v_frame.specs.DrawnItems.{put_back}
use Rattle.v_frame_raster.proofs.tables.Lists.{slice_get-at, slice_set-at}

-- The numbers of some calls and of further calls.
pub fronts-append : (before sides : List Side) → fronts (before ++ sides) ≡ fronts before + fronts sides
fronts-append before sides = sum_by-append (λ side. cond (is_front side) 1 0) before sides

pub backs-append : (before sides : List Side) → backs (before ++ sides) ≡ backs before + backs sides
backs-append before sides = sum_by-append (λ side. cond (not (is_front side)) 1 0) before sides

one_draw : (side : Side) → fronts (side ∷ []) + backs (side ∷ []) ≡ 1
one_draw Front = refl
one_draw Back = refl

pub all_draws : (sides : List Side) → fronts sides + backs sides ≡ length sides
all_draws [] = refl
all_draws (side ∷ sides) = omega (
  arith,
  fronts-append (side ∷ []) sides,
  backs-append (side ∷ []) sides,
  one_draw
      side,
  all_draws sides,
)

abbrev pub answer : {X : Type 0} → Option X → ℕ → Drawn X
answer item left = record { item = item; left = left }

module _ {X : Type 0} where
  -- The item that a call takes, and the list with this item put back.
  pub taken : (side : Side) (x : X) (xs : List X) → (item : X) × (item_from side (x ∷ xs) ≡ Some item) ×
      (x ∷ xs ≡ put_back side (λ y. y) (Some item) (remaining_after side (x ∷ xs)))
  taken Front x xs = (x, refl, refl)
  taken Back x [] = (x, refl, refl)
  taken Back x (y ∷ ys) =
      let e : length (x ∷ y ∷ ys) - 1 ≡ suc (length (y ∷ ys) - 1) = omega arith in
      let last = taken Back y ys in
      (last.0, rw e (last.1), rw e (ap (λ rest. x ∷ rest) last.2))

  -- `front` and `back` are the numbers of items that calls took from each side.
  pub record AreTaken (front back : List X) (before : List Side) : Type 0 where
    pub from_front : length front ≡ fronts before
    pub from_back : length back ≡ backs before

  -- The same numbers after one more call.
  abbrev pub front_with : Side → X → List X → List X
  front_with Front item front = front ++ item ∷ []
  front_with Back item front = front

  abbrev pub back_with : Side → X → List X → List X
  back_with Front item back = back
  back_with Back item back = item ∷ back

  pub taken_more : (side : Side) (item : X) (front back : List X) (before : List Side) → AreTaken front back before →
      AreTaken (front_with side item front) (back_with side item back) (before ++ side ∷ [])
  taken_more Front item front back before so_far = record {
    from_front = omega (arith, fronts-append before (Front ∷ []), length-append front (item ∷ []));
    from_back = omega (arith, backs-append before (Front ∷ []));
  }
  taken_more Back item front back before so_far = record {
    from_front = omega (arith, fronts-append before (Back ∷ []));
    from_back = omega (arith, backs-append before (Back ∷ []));
  }

  pub put_between : (side : Side) (change : X → X) (item : X) (front left back : List X) →
      front ++ (put_back side change (Some item) left ++ back) ≡ front_with side (change item) front ++
      (left ++ back_with side (change item) back)
  put_between Front change item front left back = rw append_assoc
  put_between Back change item front left back = rw append_assoc

  pub length_around : (front items back : List X) (before : List Side) → AreTaken front back before →
      length (front ++ (items ++ back)) ≡ length before + length items
  length_around front items back before so_far =
      omega (
        arith,
        length-append front (items ++ back),
        length-append items back,
        all_draws before,
        so_far.from_front,
        so_far.from_back,
      )

  -- The item that a call takes is the one at its number.
  pub at_number : (side : Side) (x : X) (xs front back : List X) (before : List Side) → AreTaken front back before →
      let all = front ++ (x ∷ xs ++ back) in let n = number_of_item side (length all) before in
      (slice_get all n ≡ item_from side (x ∷ xs)) ×
      ((y : X) → slice_set all n y ≡ front_with side y front ++
      (remaining_after side (x ∷ xs) ++ back_with side y back))
  at_number Front x xs front back before so_far = rw (← so_far.from_front) (
    slice_get-at front x (xs ++ back),
    λ y. slice_set-at front x (xs ++ back) y ∙ sym (append_assoc front (y ∷ []) (xs ++ back)),
  )
  at_number Back x xs front back before so_far =
      let last = taken Back x xs in
      let left = remaining_after Back (x ∷ xs) in
      let parts : front ++ (x ∷ xs ++ back) ≡ (front ++ left) ++ last.0 ∷ back =
      ap (λ items. front ++ (items ++ back)) last.2 ∙ simp append_assoc in
      let at : length (front ++ (x ∷ xs ++ back)) - 1 - backs before ≡ length (front ++ left) =
      omega (arith, ap length parts, length-append (front ++ left) (last.0 ∷ back), so_far.from_back) in
      rw (at, parts) (
        slice_get-at (front ++ left) last.0 back ∙ sym last.1,
        λ y. slice_set-at (front ++ left) last.0 back y ∙ append_assoc front left (y ∷ back),
      )

  pub fewer : (side : Side) (items : List X) → length (remaining_after side items) ≡ length items - 1
  fewer Front items = length-drop 1 items
  fewer Back items = length-take-le (length items - 1) items (omega arith)

  none_drawn : (side : Side) (sides : List Side) → drawn_in_turn {X = X} [] (side ∷ sides) ≡ answer None 0 ∷
      drawn_in_turn [] sides
  none_drawn Front sides = refl
  none_drawn Back sides = refl

  none_left : (items : List X) (before sides : List Side) → length items ≤ length before → drawn_after items before
      sides ≡ drawn_in_turn [] sides
  none_left items before [] none = refl
  none_left items before (side ∷ sides) none =
      let count : length items - length before - 1 ≡ 0 = omega arith in
      let rest = none_left items (before ++ side ∷ []) sides (omega (arith, length-append before (side ∷ []))) in
      rw (le-ltb (length before) (length items) none, count, rest) (sym (none_drawn side sides))

  -- The remaining items lie between those that the calls took.
  counted_between : (front items back : List X) (before sides : List Side) → AreTaken front back before →
      drawn_after (front ++ (items ++ back)) before sides ≡ drawn_in_turn items sides
  counted_between front items back before [] so_far = refl
  counted_between front [] back before (side ∷ sides) so_far =
      none_left (front ++ back) before (side ∷ sides) (omega (arith, length_around front [] back before so_far))
  counted_between front (x ∷ xs) back before (side ∷ sides) so_far =
      let all = front ++ (x ∷ xs ++ back) in
      let left = remaining_after side (x ∷ xs) in
      let r = taken side x xs in
      let long = length_around front (x ∷ xs) back before so_far in
      let item : item_after all before side ≡ item_from side (x ∷ xs) =
      rw (lt-ltb (length before) (length all) (omega arith)) (at_number side x xs front back before so_far).0 in
      let count : length all - length before - 1 ≡ length left = omega (arith, fewer side (x ∷ xs)) in
      let parts = ap (λ items. front ++ (items ++ back)) r.2 ∙ put_between side (λ y. y) r.0 front left back in
      let after = ap (λ items. drawn_after items (before ++ side ∷ []) sides) parts ∙
      counted_between (front_with side r.0 front) left (back_with side r.0 back) (before ++ side ∷ []) sides
      (taken_more side r.0 front back before so_far) in
      cc

pub are_counted : (X : Type 0) → AreCounted X
are_counted X = λ items sides. simp append-nil at (counted_between [] items [] [] sides
    (record { from_front = refl; from_back = refl }))

module _ {X : Type 0} where
  put_again : (side : Side) (items : List X) → items ≡ put_back side (λ x. x) (item_from side items)
      (remaining_after side items)
  put_again Front [] = refl
  put_again Back [] = refl
  put_again side (x ∷ xs) = let r = taken side x xs in rw (r.1) (r.2)

  given_more : (side : Side) (item : Option X) (front left back : List X) → put_back side (λ x. x) item
      (front ++ (left ++ reverse back)) ≡
      (given_by Front side item ++ front) ++ (left ++ reverse (given_by Back side item ++ back))
  given_more Front None front left back = refl
  given_more Back (Some x) front left back = rw (reverse-append (x ∷ []) back, append_assoc, append_assoc)
  given_more side item front left back = refl

  once_in_turn : (items : List X) (sides : List Side) → AreDrawnOnce items sides (drawn_in_turn items sides)
  once_in_turn items [] = sym (append-nil items)
  once_in_turn items (side ∷ sides) =
      let left = remaining_after side items in
      put_again side items ∙ ap (put_back side (λ x. x) (item_from side items)) (once_in_turn left sides) ∙ given_more
      side (item_from side items) _ _ _

  pub drawn_once : (items : List X) (sides : List Side) → AreDrawnOnce items sides (draws_answer items sides)
  drawn_once items sides = rw (are_counted X items sides) (once_in_turn items sides)

  -- The calls are given by their sides.
  pub sides_drawn_once : (items : List X) (sides : List Side) (answers : List (Drawn X)) → answers ≡ draws_answer items
      (map (λ side. side) sides) →
      AreDrawnOnce items sides answers
  sides_drawn_once items sides answers is = rw (is, map-id) (drawn_once items sides)

  length-remaining_in_turn : (items : List X) (sides : List Side) → length (remaining_in_turn items sides) ≡ length
      items - length sides
  length-remaining_in_turn items [] = omega arith
  length-remaining_in_turn items (side ∷ sides) = omega
      (arith, length-remaining_in_turn (remaining_after side items) sides, fewer side items)

  -- If there are as many calls as items, no item remains.
  pub all_given : (items : List X) (sides : List Side) → length items ≤ length sides → AreAllGiven items sides
      (draws_answer items sides)
  all_given items sides enough =
      let none = nil_from_length (remaining_in_turn items sides) (omega (arith, length-remaining_in_turn items sides))
      in
      rw none at (drawn_once items sides)

  -- One more call of a list.
  drawn-push : (items : List X) (sides : List Side) (side : Side)
      → drawn_in_turn items (sides ++ side ∷ []) ≡ drawn_in_turn items sides ++
      answer (item_from side (remaining_in_turn items sides))
      (length (remaining_after side (remaining_in_turn items sides))) ∷ []
  drawn-push items [] side = refl
  drawn-push items (first ∷ sides) side = rw (drawn-push (remaining_after first items) sides side)

  pub left-push : (items : List X) (sides : List Side) (side : Side) → remaining_in_turn items (sides ++ side ∷ []) ≡
      remaining_after side (remaining_in_turn items sides)
  left-push items [] side = refl
  left-push items (first ∷ sides) side = left-push (remaining_after first items) sides side

  module _ (items : List X) (sides : List Side) (i : ℕ) (side : Side) (within : i < length sides)
      (here : side ≡ get_or sides i side) (left more :
      List X) (so_far : left ≡ remaining_in_turn items (take i sides)) (less : more ≡ remaining_after side left) where
    pub left_more : more ≡ remaining_in_turn items (take (i + 1) sides)
    left_more = rw (take_more sides i side within, ← here, left-push, ← so_far) less

    pub drawn_more : (answers : List (Drawn X)) (item : Option X) (count : ℕ) → answers ≡ drawn_in_turn items
        (take i sides) → item ≡ item_from side left →
        count ≡ length more → answers ++ answer item count ∷ [] ≡ drawn_in_turn items (take (i + 1) sides)
    drawn_more answers item count before given counted = rw
        (take_more sides i side within, ← here, drawn-push, ← so_far, ← less) cc

  -- The results of all calls.
  pub all_drawn : (items : List X) (sides : List Side) (n : ℕ) (answers : List (Drawn X)) → n ≡ length sides → answers
      ≡ drawn_in_turn items (take n sides) →
      answers ≡ draws_answer items sides
  all_drawn items sides n answers e so_far = rw (are_counted X, ← take_all n sides (omega arith)) so_far
