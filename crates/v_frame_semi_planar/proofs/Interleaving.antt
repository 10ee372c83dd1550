-- A list with the items of two others, alternately, is those two interleaved. For two tables, each
-- row is.
use Rattle.std.proofs.Common.{ℕ, suc, ◌≡◌, ◌+◌, ◌*◌, ◌<◌, ◌≤◌, List, [], ◌∷◌, length, Some, slice_get, slice_set}
use Rattle.std.proofs.Common.{refl, sym, ◌∙◌, ap, arith, mul-suc, take, drop, ◌++◌, length-take-le}
use Rattle.std.proofs.Common.{All, length-append}
use Rattle.std.proofs.Math.Seq.{take-add}
use Rattle.std.proofs.lemmas.Slice.{take-put_mid}
use borrow.Rule.Slice.PartMut.{put_mid}
use Rattle.std.proofs.lemmas.List.Elements.{All-head, All-tail}
use Rattle.v_frame.specs.Prelude.{Table, row_major}
use Rattle.v_frame_ops.specs.Change.{combined}
use Rattle.v_frame_raster.proofs.tables.Lists.{same_by_slice_get, set_is_read, others_are_read}
use Rattle.v_frame_semi_planar.specs.Interleaved.{interleaved}
use Rattle.v_frame_semi_planar.proofs.CombinedLists.{length-combined, slice_get-combined}
use borrow.Author.Count.{below_more}

-- The items of two lists in front of an index are in a third list, alternately.
pub record ByTurnsBelow {X : Type 0} (us vs row : List X) (i : ℕ) : Type 0 where
  pub first : (k : ℕ) → k < i → slice_get row (2 * k) ≡ slice_get us k
  pub second : (k : ℕ) → k < i → slice_get row (2 * k + 1) ≡ slice_get vs k

module _ {X : Type 0} where
  pub by_turns : (us vs row : List X) → length row ≡ 2 * length us → length vs ≡ length us →
      ByTurnsBelow us vs row (length us) → row ≡ interleaved us vs
  by_turns [] vs [] long equal turns = refl
  by_turns (u ∷ us) (v ∷ vs) (a ∷ b ∷ row) long equal turns =
      let first : Some a ≡ Some u = turns.first 0 (omega arith) in
      let second : Some b ≡ Some v = turns.second 0 (omega arith) in
      let two : (k : ℕ) → 2 * suc k ≡ suc (suc (2 * k)) = λ k. omega arith in
      let three : (k : ℕ) → 2 * suc k + 1 ≡ suc (suc (2 * k + 1)) = λ k. omega arith in
      let rest : row ≡ interleaved us vs = by_turns us vs row (omega arith) (omega arith) (record {
        first = λ k h. rw (two k) at (turns.first (suc k) (omega arith));
        second = λ k h. rw (three k) at (turns.second (suc k) (omega arith));
      }) in
      cc
  by_turns us vs row long equal turns = absurd (omega arith)

-- Each row of a table above row `y` is the corresponding rows of two others, interleaved.
pub record ApartBelow {T : Type 0} (source us vs : Table T) (y : ℕ) : Type 0 where
  pub at : (k : ℕ) → k < y → (u v : List T) × (slice_get us k ≡ Some u) × (slice_get vs k ≡ Some v)
      × (slice_get source k ≡ Some (interleaved u v))

module _ {T : Type 0} (source us vs : Table T) (y : ℕ) where
  -- One more row.
  pub one_more_apart : (u v : List T) → ApartBelow source us vs y → y < length us → y < length vs
      → slice_get source y ≡ Some (interleaved u v) → ApartBelow source (slice_set us y u) (slice_set vs y v) (y + 1)
  one_more_apart u v so_far within second_within is = record {
    at =
        below_more (λ k. (a b : List T) × (slice_get (slice_set us y u) k ≡ Some a)
        × (slice_get (slice_set vs y v) k ≡ Some b) × (slice_get source k ≡ Some (interleaved a b))) y
        (λ k h. let r = so_far.at k h in
        (r.0, r.1, others_are_read us y k u (omega arith) ∙ r.2, others_are_read vs y k v (omega arith) ∙ r.3, r.4))
        (u, v, set_is_read us y u within, set_is_read vs y v second_within, is);
  }

  -- After the last row, the table is the two others, interleaved.
  pub all_apart : length us ≡ length source → length vs ≡ length source → length source ≤ y
      → ApartBelow source us vs y → source ≡ combined interleaved us vs
  all_apart as_many second_as_many end apart =
      same_by_slice_get source (combined interleaved us vs)
      (sym as_many ∙ sym (length-combined interleaved us vs (second_as_many ∙ sym as_many))) (λ k h.
      let r = apart.at k (omega arith) in
      r.4 ∙ sym (slice_get-combined interleaved us vs k r.0 r.1 r.2 r.3))

module _ {T : Type 0} where
  length-interleaved : (us vs : List T) → length us ≡ length vs → length (interleaved us vs) ≡ length us + length vs
  length-interleaved [] [] equal = refl
  length-interleaved (u ∷ us) (v ∷ vs) equal = omega (arith, length-interleaved us vs (omega arith))
  length-interleaved us vs equal = absurd (omega arith)

  -- The interleaved table of two tables of one size has as many pixels as both together.
  pub pixels_by_turns : (width : ℕ) (us vs : Table T) → All (λ row. length row ≡ width) us
      → All (λ row. length row ≡ width) vs → length us ≡ length vs → length (row_major (combined interleaved us vs)) ≡
      length (row_major us) + length (row_major vs)
  pixels_by_turns width [] [] wide wide_second equal = refl
  pixels_by_turns width (u ∷ us) (v ∷ vs) wide wide_second equal =
      let long = All-head (λ row. length row ≡ width) u us wide in
      let long_second = All-head (λ row. length row ≡ width) v vs wide_second in
      let rest = pixels_by_turns width us vs (All-tail (λ row. length row ≡ width) u us wide)
      (All-tail (λ row. length row ≡ width) v vs wide_second) (omega arith) in
      simp length-append (omega (arith, length-interleaved u v (long ∙ sym long_second), rest))
  pixels_by_turns width us vs wide wide_second equal = absurd (omega arith)

module _ {X : Type 0} where
  -- Interleaved lists that consist of two parts.
  pub interleaved-append : (ps qs us vs : List X) → length qs ≡ length ps → interleaved (ps ++ us) (qs ++ vs) ≡ interleaved ps qs
      ++ interleaved us vs
  interleaved-append [] [] us vs same = refl
  interleaved-append (p ∷ ps) (q ∷ qs) us vs same =
      ap (λ rest. p ∷ q ∷ rest) (interleaved-append ps qs us vs (omega (arith, same)))
  interleaved-append ps qs us vs same = absurd (omega (arith, same))

  -- The first items of a list are those of two others, alternately.
  abbrev pub FirstApart : List X → List X → List X → ℕ → Type 0
  FirstApart items us vs n = take (2 * n) items ≡ interleaved (take n us) (take n vs)

  -- One more block of items from each.
  pub block_apart : (n k : ℕ) (items us vs p q : List X) → n * k + n ≤ length us → n * k + n ≤ length vs → length p ≡ n
      → length q ≡ n → take (2 * n) (drop (2 * (n * k)) items) ≡ interleaved p q → FirstApart items us vs (n * k)
      → FirstApart items (put_mid (n * k) n us p) (put_mid (n * k) n vs q) (n * (k + 1))
  block_apart n k items us vs p q room room_second long long_second is so_far =
      let next : n * (k + 1) ≡ n * k + n = omega (arith, mul-suc n k) in
      let both : 2 * (n * k + n) ≡ 2 * (n * k) + 2 * n = omega arith in
      let front = take-put_mid (n * k) n us p (n * k + n) (omega (arith, long)) (omega (arith, room)) in
      let front_second = take-put_mid (n * k) n vs q (n * k + n) (omega (arith, long_second)) (omega (arith, room_second)) in
      let same : length (take (n * k) vs) ≡ length (take (n * k) us) =
      length-take-le (n * k) vs (omega (arith, room_second)) ∙ sym (length-take-le (n * k) us (omega (arith, room))) in
      rw (next, front, front_second, both, take-add (2 * (n * k)) (2 * n) items, so_far, is)
      (sym (interleaved-append (take (n * k) us) (take (n * k) vs) p q same))
