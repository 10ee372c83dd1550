-- The first position with the smallest cost: among one position, with one more column, and with one more row.
use Rattle.std.proofs.Common.{ℕ, ◌≡◌, ◌+◌, ◌-◌, ◌<◌, ◌≤◌, inl, inr, arith, ap, ◌∙◌, sym}
use Rattle.std.proofs.lemmas.Bool.{cases_lt}
use Rattle.example_conversions.specs.MotionSearch.{IsFirstLeast, IsPosition}
use Rattle.example_conversions.specs.declared.motion_search.SearchArea.{SearchArea}
use Rattle.example_conversions.specs.declared.motion_search.BlockMatch.{BlockMatch}

abbrev pub area_of : ℕ → ℕ → ℕ → ℕ → SearchArea
area_of x y columns rows = record { x = x; y = y; columns = columns; rows = rows }

position : {x y columns rows i j : ℕ} → x ≤ i → i < x + columns → y ≤ j → j < y + rows
    → IsPosition (area_of x y columns rows) i j
position left right top bottom = record { left = left; right = right; top = top; bottom = bottom }

module _ (cost_of : ℕ → ℕ → ℕ) (x y : ℕ) where
  same_cost : (i j k l : ℕ) → i ≡ k → j ≡ l → cost_of i j ≡ cost_of k l
  same_cost i j k l across down = ap (λ n. cost_of n j) across ∙ ap (cost_of k) down

  -- A single position.
  pub one_found : (found : BlockMatch) → found.x ≡ x → found.y ≡ y → found.cost ≡ cost_of x y
      → IsFirstLeast cost_of (area_of x y 1 1) found
  one_found found across down is = record {
    position = position (omega arith) (omega arith) (omega arith) (omega arith);
    cost = is ∙ same_cost x y found.x found.y (sym across) (sym down);
    least = λ i j at. omega (arith, is, same_cost i j x y (omega (arith, at)) (omega (arith, at)));
    above = λ i j at h. absurd (omega (arith, at));
    before = λ i at h. absurd (omega (arith, at));
  }

  -- One more column in a row.
  module _ (columns : ℕ) (best found : BlockMatch) (so_far : IsFirstLeast cost_of (area_of x y columns 1) best)
      (here : IsFirstLeast cost_of (area_of (x + columns) y 1 1) found) where
    at_left : {i j : ℕ} → IsPosition (area_of x y (columns + 1) 1) i j → i < x + columns
        → IsPosition (area_of x y columns 1) i j
    at_left at h = position at.left h at.top at.bottom

    at_last : {i j : ℕ} → IsPosition (area_of x y (columns + 1) 1) i j → x + columns ≤ i
        → IsPosition (area_of (x + columns) y 1 1) i j
    at_last at h = position h (omega (arith, at.right)) at.top at.bottom

    pub column_stays : best.cost ≤ found.cost → IsFirstLeast cost_of (area_of x y (columns + 1) 1) best
    column_stays order = record {
      position =
          let at = so_far.position in position at.left (omega (arith, at.right)) at.top at.bottom;
      cost = so_far.cost;
      least = λ i j at.
          elim (cases_lt i (x + columns)) [
            | inl h ↦ so_far.least i j (at_left at h)
            | inr h ↦ omega (arith, order, here.least i j (at_last at h))
          ];
      above = λ i j at h. absurd (omega (arith, at.top, so_far.position.bottom, h));
      before = λ i at h. so_far.before i (at_left at (omega (arith, so_far.position.right, h))) h;
    }

    pub column_becomes : found.cost < best.cost → IsFirstLeast cost_of (area_of x y (columns + 1) 1) found
    column_becomes order = record {
      position =
          let at = here.position in
          position (omega (arith, at.left)) (omega (arith, at.right)) at.top at.bottom;
      cost = here.cost;
      least = λ i j at.
          elim (cases_lt i (x + columns)) [
            | inl h ↦ omega (arith, order, so_far.least i j (at_left at h))
            | inr h ↦ here.least i j (at_last at h)
          ];
      above = λ i j at h. absurd (omega (arith, at.top, here.position.bottom, h));
      before = λ i at h.
          omega (arith, order, so_far.least i found.y (at_left at (omega (arith, here.position.right, h))));
    }

  -- The loop step: one more row.
  module _ (columns rows : ℕ) (best found : BlockMatch) (so_far : IsFirstLeast cost_of (area_of x y columns rows) best)
      (here : IsFirstLeast cost_of (area_of x (y + rows) columns 1) found) where
    at_top : {i j : ℕ} → IsPosition (area_of x y columns (rows + 1)) i j → j < y + rows
        → IsPosition (area_of x y columns rows) i j
    at_top at h = position at.left at.right at.top h

    at_bottom : {i j : ℕ} → IsPosition (area_of x y columns (rows + 1)) i j → y + rows ≤ j
        → IsPosition (area_of x (y + rows) columns 1) i j
    at_bottom at h = position at.left at.right h (omega (arith, at.bottom))

    pub row_stays : best.cost ≤ found.cost → IsFirstLeast cost_of (area_of x y columns (rows + 1)) best
    row_stays order = record {
      position =
          let at = so_far.position in position at.left at.right at.top (omega (arith, at.bottom));
      cost = so_far.cost;
      least = λ i j at.
          elim (cases_lt j (y + rows)) [
            | inl h ↦ so_far.least i j (at_top at h)
            | inr h ↦ omega (arith, order, here.least i j (at_bottom at h))
          ];
      above = λ i j at h. so_far.above i j (at_top at (omega (arith, so_far.position.bottom, h))) h;
      before = λ i at h. so_far.before i (at_top at so_far.position.bottom) h;
    }

    pub row_becomes : found.cost < best.cost → IsFirstLeast cost_of (area_of x y columns (rows + 1)) found
    row_becomes order = record {
      position =
          let at = here.position in
          position at.left at.right (omega (arith, at.top)) (omega (arith, at.bottom));
      cost = here.cost;
      least = λ i j at.
          elim (cases_lt j (y + rows)) [
            | inl h ↦ omega (arith, order, so_far.least i j (at_top at h))
            | inr h ↦ here.least i j (at_bottom at h)
          ];
      above = λ i j at h.
          omega (arith, order, so_far.least i j (at_top at (omega (arith, here.position.bottom, h))));
      before = λ i at h. here.before i (at_bottom at here.position.top) h;
    }

-- The columns up to number `i`, or the rows up to number `j`, and one more.
module _ (cost_of : ℕ → ℕ → ℕ) (x y : ℕ) (best found : BlockMatch) where
  module _ (i : ℕ) (low : x ≤ i) (so_far : IsFirstLeast cost_of (area_of x y (i - x) 1) best) (across : found.x ≡ i)
      (down : found.y ≡ y) (is : found.cost ≡ cost_of i y) where
    next_column : i + 1 - x ≡ i - x + 1
    next_column = omega arith

    this_column : IsFirstLeast cost_of (area_of (x + (i - x)) y 1 1) found
    this_column =
        let here : x + (i - x) ≡ i = omega arith in rw here (one_found cost_of i y found across down is)

    pub column_more_stays : best.cost ≤ found.cost → IsFirstLeast cost_of (area_of x y (i + 1 - x) 1) best
    column_more_stays order = rw next_column (column_stays cost_of x y (i - x) best found so_far this_column order)

    pub column_more_becomes : found.cost < best.cost → IsFirstLeast cost_of (area_of x y (i + 1 - x) 1) found
    column_more_becomes order = rw next_column (column_becomes cost_of x y (i - x) best found so_far this_column order)

  module _ (columns j : ℕ) (low : y ≤ j) (so_far : IsFirstLeast cost_of (area_of x y columns (j - y)) best)
      (here : IsFirstLeast cost_of (area_of x j columns 1) found) where
    next_row : j + 1 - y ≡ j - y + 1
    next_row = omega arith

    this_row : IsFirstLeast cost_of (area_of x (y + (j - y)) columns 1) found
    this_row = let is : y + (j - y) ≡ j = omega arith in rw is here

    pub row_more_stays : best.cost ≤ found.cost → IsFirstLeast cost_of (area_of x y columns (j + 1 - y)) best
    row_more_stays order = rw next_row (row_stays cost_of x y columns (j - y) best found so_far this_row order)

    pub row_more_becomes : found.cost < best.cost → IsFirstLeast cost_of (area_of x y columns (j + 1 - y)) found
    row_more_becomes order = rw next_row (row_becomes cost_of x y columns (j - y) best found so_far this_row order)
