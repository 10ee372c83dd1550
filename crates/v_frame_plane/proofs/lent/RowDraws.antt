-- The numbers in an iterator that lends rows, before and after `next` and `next_back`. The end at which a call works
-- is `s`.
-- - number, place_of, start_of: the row that is taken, the index where it begins, and the index where the next row
--   begins afterwards.
-- - Cut: the slice is split where the row begins and where it ends.
-- - left: the iterator after the call.
use Rattle.v_frame_buffer.proofs.Steps.{ℕ, zero, suc, ◌≡◌, ◌+◌, ◌-◌, ◌*◌, ◌^◌, ◌<◌, ◌≤◌, List, length, take, list_drop}
use Rattle.v_frame_buffer.proofs.Steps.{Option, Some, None, MutBor, refl, ap, ◌∙◌, arith, length-take-le, length-drop}
use Rattle.v_frame_buffer.proofs.Steps.{not, ⊤, T, T_not, eqb, MakesProgress, item_count}
use Rattle.v_frame_plane.specs.Cursor.{RowsAreWithin}
use Rattle.v_frame_plane.specs.RowsLeft.{rows_left}
use Rattle.v_frame_plane.specs.declared.rows_mut.RowsMut.{RowsMut}
use Rattle.v_frame_plane.proofs.iterators.Cursors.{count_of_rows, first_row, last_row, no_rows}
use Rattle.v_frame_plane.proofs.lent.RowMemory.{moved}
use Rattle.v_frame_plane.proofs.lent.Sides.{Side, at_front, at_back, at_side, YieldsRow}

-- The test with which both functions begin.
pub some_left : (count : ℕ) → T (not (eqb count 0)) → 0 < count
some_left zero h = absurd (T_not (eqb 0 0) h tt)
some_left (suc count) h = omega arith

one_more : (count stride : ℕ) → 0 < count → count * stride ≡ stride + (count - 1) * stride
one_more count stride h =
    let e : count ≡ suc (count - 1) = omega arith in
    ap (λ k. k * stride) e ∙ omega arith

module _ {X : Type 0} (s : Side) (old : RowsMut X) where
  abbrev pub number : ℕ
  number = at_side s 0 (old.count - 1)

  abbrev pub place_of : ℕ
  place_of = at_side s old.start (old.start + (old.count - 1) * (old.width + old.gap))

  abbrev pub start_of : ℕ
  start_of = at_side s old.gap old.start

module _ {X : Type 0} (old : RowsMut X) where
  pub is_place : (s : Side) → old.start + number s old * (old.width + old.gap) ≡ place_of s old
  is_place at_front = omega arith
  is_place at_back = omega arith

  pub number_fits : (s : Side) → old.count < 2 ^ 64 → number s old < 2 ^ 64
  number_fits at_front fits = omega arith
  number_fits at_back fits = omega (arith, fits)

  pub inside : (s : Side) → 0 < old.count → place_of s old + old.width ≤ length old.rest.now
  inside at_front more = omega (arith, old.within.within more, one_more old.count (old.width + old.gap) more)
  inside at_back more = omega (arith, old.within.within more, one_more old.count (old.width + old.gap) more)

  pub none_left : (s : Side) → old.count ≡ 0 → YieldsRow s old None old
  unfolding rows_left
  none_left at_front none = let e = no_rows old.start old.width old.gap old.count old.rest.now none in (e, e)
  none_left at_back none = let e = no_rows old.start old.width old.gap old.count old.rest.now none in (e, e)

  abbrev pub no_row : Option (MutBor (List X))
  no_row = None

  pub stays : MakesProgress (λ _. ⊤) (item_count rows_left) old no_row old
  stays = record { on = λ _. tt; keeps = tt; rests = λ _. tt }

  module _ (before at row behind : MutBor (List X)) (more : 0 < old.count) (s : Side) where
    pub record Cut : Type 0 where
      pub before_is : before.now ≡ take (place_of s old) old.rest.now
      pub at_is : at.now ≡ list_drop (place_of s old) old.rest.now
      pub row_is : row.now ≡ take old.width at.now
      pub behind_is : behind.now ≡ list_drop old.width at.now

  module _ (before at row behind : MutBor (List X)) (more : 0 < old.count) where
    abbrev Its : Side → Type 0
    Its s = Cut before at row behind more s

    pub behind_all : (s : Side) → Its s → behind.now ≡ list_drop old.width (list_drop (place_of s old) old.rest.now)
    behind_all s cut = cut.behind_is ∙ ap (list_drop old.width) cut.at_is

    pub within : (s : Side) → Its s → RowsAreWithin (start_of s old) old.width old.gap (old.count - 1)
        (length (at_side s behind before).now)
    within at_front cut =
        let long : length behind.now ≡ length old.rest.now - old.start - old.width = rw
        (behind_all at_front cut, length-drop, length-drop) refl in
        let rows = one_more old.count (old.width + old.gap) more in
        record {
          wide = old.within.wide;
          stride = old.within.stride;
          within = λ left. omega
              (arith, old.within.within more);
        }
    within at_back cut =
        let long = ap length cut.before_is ∙ length-take-le (place_of at_back old) old.rest.now
        (omega (arith, inside at_back more)) in
        record { wide = old.within.wide; stride = old.within.stride; within = λ left. omega (arith, long) }

    abbrev pub left : (s : Side) → Its s → RowsMut X
    left s cut = moved old (at_side s behind before) (start_of s old) (old.count - 1) (within s cut)

    pub moves_on : (s : Side) (cut : Its s) → MakesProgress (λ _. ⊤) (item_count rows_left) old (Some row) (left s cut)
    unfolding rows_left
    moves_on s cut = let new = left s cut in record {
      on = λ _. (
        tt,
        tt,
        omega (
          arith,
          count_of_rows old.start old.width old.gap old.count old.rest.now,
          count_of_rows new.start new.width new.gap new.count new.rest.now,
        ),
      );
      keeps = tt;
      rests = λ _. tt;
    }

    pub draws : (s : Side) (cut : Its s) → YieldsRow s old (Some row) (left s cut)
    unfolding rows_left
    draws at_front cut =
        rw (cut.row_is, cut.at_is, behind_all at_front cut)
        (first_row old.start old.width old.gap old.count old.rest.now more)
    draws at_back cut = rw (cut.row_is, cut.at_is, cut.before_is)
        (last_row old.start old.width old.gap old.count old.rest.now more)
