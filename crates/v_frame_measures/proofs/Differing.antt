-- Differences of two rows, and of two pictures row by row.
use Rattle.std.proofs.Common.{ℕ, ◌≡◌, ◌≢◌, ◌+◌, ◌<◌, ◌≤◌, List, length, get_or, None, Some, slice_get, inl, inr, refl, sym, ap, ◌∙◌, arith}
use Rattle.std.specs.Prelude.{option_and_then, unwrap_or}
use Rattle.std.specs.Int.{abs_diff}
use Rattle.std.proofs.lemmas.Bool.{cases_lt}
use Rattle.std.proofs.lemmas.Option.{slice_get_past, slice_get_read, slice_get_within}
use Rattle.v_frame.specs.Prelude.{Table, pixel_at}
use Rattle.v_frame_measures.specs.declared.differences.GreatestDifference.{GreatestDifference}
use Rattle.v_frame_measures.specs.Differences.{DifferAt, DifferFirstBy, DifferNoMore, IsGreatestDifference, PixelsDifferAt}

-- A pixel of a table lies in one of its rows.
is_there : {T : Type 0} (rows : Table T) (x y : ℕ) (p : T) → pixel_at rows x y ≡ Some p → y < length rows
is_there rows x y p is =
    elim (cases_lt y (length rows)) [
      | inl within ↦ within
      | inr past ↦
          let none = ap (option_and_then (λ row. slice_get row x)) (slice_get_past rows y past) in
          let no : None ≡ Some p = sym none ∙ is in
          cc
    ]

module _ {T : Type 0} (value : T → ℕ) where
  module _ (row other : List T) where
    pub read_pair : (i : ℕ) (p q : T) (d : ℕ) → length other ≡ length row → i < length row → p ≡ get_or row i p
        → q ≡ get_or other i q → d ≡ abs_diff (value p) (value q) → DifferAt value row other d i
    read_pair i p q d same within first second apart = record {
      one = p;
      two = q;
      first = slice_get_read row (length row) i p refl within first;
      second = slice_get_read other (length row) i q (sym same) within second;
      apart = apart;
    }

    -- Two rows have only one difference at each index.
    one_difference : (i d e : ℕ) → DifferAt value row other d i → DifferAt value row other e i → d ≡ e
    one_difference i d e this that =
        let first : this.one ≡ that.one = ap (λ p. unwrap_or p this.one) (sym this.first ∙ that.first) in
        let second : this.two ≡ that.two = ap (λ p. unwrap_or p this.two) (sym this.second ∙ that.second) in
        this.apart ∙ ap (λ p. abs_diff (value p) (value this.two)) first
        ∙ ap (λ q. abs_diff (value that.one) (value q)) second ∙ sym that.apart

    pub none_below : DifferNoMore value row other 0 0
    none_below = λ i d below differ. absurd (omega (arith, below))

    pub one_more : (x old new d : ℕ) → DifferNoMore value row other x old → DifferAt value row other d x → old ≤ new
        → d ≤ new → DifferNoMore value row other (x + 1) new
    one_more x old new d before here h k = λ i e below differ.
        elim (cases_lt i x) [
          | inl under ↦ omega (arith, h, before i e under differ)
          | inr not_under ↦
              let is : i ≡ x = omega (arith, below, not_under) in
              omega (arith, k, one_difference x e d (rw is at differ) here)
        ]

    pub not_here : (x d e : ℕ) → ((i : ℕ) → i < x → ¬ DifferAt value row other d i) → DifferAt value row other e x
        → e ≢ d → (i : ℕ) → i < x + 1 → ¬ DifferAt value row other d i
    not_here x d e before here unlike i below differ =
        elim (cases_lt i x) [
          | inl under ↦ before i under differ
          | inr not_under ↦
              let is : i ≡ x = omega (arith, below, not_under) in
              unlike (one_difference x e d here (rw is at differ))
        ]

  module _ (a b : Table T) where
    row_of : (rows : Table T) (x y : ℕ) (row : List T) → slice_get rows y ≡ Some row
        → pixel_at rows x y ≡ slice_get row x
    row_of rows x y row is = ap (option_and_then (λ r. slice_get r x)) is

    module _ (y : ℕ) (row other : List T) (is : slice_get a y ≡ Some row) (is1 : slice_get b y ≡ Some other) where
      in_row : (x d : ℕ) → PixelsDifferAt value a b d x y → DifferAt value row other d x
      in_row x d differ = record {
        one = differ.one;
        two = differ.two;
        first = sym (row_of a x y row is) ∙ differ.first;
        second = sym (row_of b x y other is1) ∙ differ.second;
        apart = differ.apart;
      }

      in_picture : (x d : ℕ) → DifferAt value row other d x → PixelsDifferAt value a b d x y
      in_picture x d differ = record {
        one = differ.one;
        two = differ.two;
        first = row_of a x y row is ∙ differ.first;
        second = row_of b x y other is1 ∙ differ.second;
        apart = differ.apart;
      }

      no_more : (d x e : ℕ) → DifferNoMore value row other (length row) d → PixelsDifferAt value a b e x y → e ≤ d
      no_more d x e most differ =
          let here = in_row x e differ in most x e (slice_get_within row x here.one here.first) here

    -- No difference in the rows below `limit` is larger than the one found, and its position is the first that has it.
    pub record GreatestAbove (limit : ℕ) (found : GreatestDifference) : Type 0 where
      pub there : PixelsDifferAt value a b found.difference found.x found.y
      pub within : found.y < limit
      pub bound : (x y d : ℕ) → y < limit → PixelsDifferAt value a b d x y → d ≤ found.difference
      pub above : (x y : ℕ) → y < found.y → ¬ PixelsDifferAt value a b found.difference x y
      pub before : (x : ℕ) → x < found.x → ¬ PixelsDifferAt value a b found.difference x found.y

    pub first_row : (row other : List T) (d x : ℕ) → slice_get a 0 ≡ Some row → slice_get b 0 ≡ Some other
        → DifferNoMore value row other (length row) d → DifferFirstBy value row other d x
        → GreatestAbove 1 (record { difference = d; x = x; y = 0 })
    first_row row other d x is is1 most first = record {
      there = in_picture 0 row other is is1 x d first.there;
      within = omega arith;
      bound = λ i y e below differ.
          let top : y ≡ 0 = omega (arith, below) in no_more 0 row other is is1 d i e most (rw top at differ);
      above = λ i y below differ. absurd (omega (arith, below));
      before = λ i below differ. first.first i below (in_row 0 row other is is1 i d differ);
    }

    pub next_row_greater : (y : ℕ) (row other : List T) (d x : ℕ) (found : GreatestDifference)
        → slice_get a y ≡ Some row → slice_get b y ≡ Some other → DifferNoMore value row other (length row) d
        → DifferFirstBy value row other d x → GreatestAbove y found → found.difference < d
        → GreatestAbove (y + 1) (record { difference = d; x = x; y = y })
    next_row_greater y row other d x found is is1 most first so_far h = record {
      there = in_picture y row other is is1 x d first.there;
      within = omega arith;
      bound = λ i j e below differ.
          elim (cases_lt j y) [
            | inl under ↦ omega (arith, h, so_far.bound i j e under differ)
            | inr not_under ↦
                let here : j ≡ y = omega (arith, below, not_under) in
                no_more y row other is is1 d i e most (rw here at differ)
          ];
      above = λ i j below differ. absurd (omega (arith, h, so_far.bound i j d below differ));
      before = λ i below differ. first.first i below (in_row y row other is is1 i d differ);
    }

    pub next_row_less : (y : ℕ) (row other : List T) (d : ℕ) (found : GreatestDifference)
        → slice_get a y ≡ Some row → slice_get b y ≡ Some other → DifferNoMore value row other (length row) d
        → GreatestAbove y found → d ≤ found.difference → GreatestAbove (y + 1) found
    next_row_less y row other d found is is1 most so_far h = record {
      there = so_far.there;
      within = omega (arith, so_far.within);
      bound = λ i j e below differ.
          elim (cases_lt j y) [
            | inl under ↦ so_far.bound i j e under differ
            | inr not_under ↦
                let here : j ≡ y = omega (arith, below, not_under) in
                omega (arith, h, no_more y row other is is1 d i e most (rw here at differ))
          ];
      above = so_far.above;
      before = so_far.before;
    }

    pub in_all_rows : (y : ℕ) (found : GreatestDifference) → GreatestAbove y found → length a ≤ y
        → IsGreatestDifference value a b found
    in_all_rows y found so_far h = record {
      there = so_far.there;
      bound = λ i j e differ.
          elim (cases_lt j y) [
            | inl under ↦ so_far.bound i j e under differ
            | inr not_under ↦ absurd (omega (arith, h, not_under, is_there a i j differ.one differ.first))
          ];
      above = so_far.above;
      before = so_far.before;
    }
