-- Loops that swap the items of a list from both ends.
use Rattle.std.proofs.Common.{ℕ, ◌≡◌, ◌≢◌, ◌+◌, ◌-◌, ◌<◌, ◌≤◌, List, length, map, Some, reverse, slice_get}
use Rattle.std.proofs.Common.{slice_set, refl, sym, ◌∙◌, inl, inr, arith, option_map, length-set}
use Rattle.std.proofs.lemmas.Bool.{cases_lt}
use Rattle.std.proofs.lemmas.List.{length-map}
use Rattle.std.proofs.lemmas.Option.{slice_get-map}
use Rattle.v_frame_raster.proofs.tables.Lists.{set_is_read, others_are_read}
use Rattle.v_frame_raster.proofs.tables.ListItems.{is_reverse}

-- The first `i` and the last `i` items are swapped, and `of` is applied to them. The other items are unchanged.
pub record ExchangedBelow {X : Type 0} (of : X → X) (old now : List X) (i : ℕ) : Type 0 where
  pub count : length now ≡ length old
  pub low : (k : ℕ) → k < i → slice_get now k ≡ option_map of (slice_get old (length old - 1 - k))
  pub high : (k : ℕ) → k < length old → length old ≤ k + i → slice_get now k
      ≡ option_map of (slice_get old (length old - 1 - k))
  pub between : (k : ℕ) → i ≤ k → k + i < length old → slice_get now k ≡ slice_get old k

module _ {X : Type 0} (of : X → X) where
  pub none_exchanged : (xs : List X) → ExchangedBelow of xs xs 0
  none_exchanged xs = record {
    count = refl;
    low = λ k h. absurd (omega arith);
    high = λ k h from. absurd (omega arith);
    between = λ k from h. refl;
  }

  -- The loop step: one more item and its counterpart from the end.
  pub one_more_exchanged : (old now : List X) (i j : ℕ) (p q p' q' : X) → i + j + 1 ≡ length old → i < j
      → ExchangedBelow of old now i → slice_get now i ≡ Some p → slice_get now j ≡ Some q → p' ≡ of p → q' ≡ of q
      → ExchangedBelow of old (slice_set (slice_set now i q') j p') (i + 1)
  one_more_exchanged old now i j p q p' q' ends apart so_far at_i at_j is_p is_q =
      let first = slice_set now i q' in
      let after = slice_set first j p' in
      let was_i : slice_get old i ≡ Some p = sym (so_far.between i (omega arith) (omega arith)) ∙ at_i in
      let was_j : slice_get old j ≡ Some q = sym (so_far.between j (omega arith) (omega arith)) ∙ at_j in
      let long : length first ≡ length old = length-set now i q' ∙ so_far.count in
      let now_i : slice_get after i ≡ option_map of (slice_get old j) =
      others_are_read first j i p' (omega arith) ∙ set_is_read now i q' (omega (arith, so_far.count)) ∙ rw (was_j, is_q)
      refl in
      let now_j : slice_get after j ≡ option_map of (slice_get old i) =
      set_is_read first j p' (omega (arith, long)) ∙ rw (was_i, is_p) refl in
      let far_i : length old - 1 - i ≡ j = omega arith in
      let far_j : length old - 1 - j ≡ i = omega arith in
      let others : (k : ℕ) → k ≢ i → k ≢ j → slice_get after k ≡ slice_get now k =
      λ k not_i not_j. others_are_read first j k p' not_j ∙ others_are_read now i k q' not_i in
      record {
        count = length-set first j p' ∙ long;
        low = λ k h. elim (cases_lt k i) [
          | inl before ↦ others k (omega arith) (omega arith) ∙ so_far.low k before
          | inr from ↦ let same : k ≡ i = omega arith in rw (same, far_i) now_i
        ];
        high = λ k h from. elim (cases_lt j k) [
          | inl behind ↦ others k (omega arith) (omega arith) ∙ so_far.high k h (omega arith)
          | inr not_behind ↦ let same : k ≡ j = omega arith in rw (same, far_j) now_j
        ];
        between = λ k from h. others k (omega arith) (omega arith) ∙ so_far.between k (omega arith) (omega arith);
      }

  -- If every item was replaced by its counterpart from the other end, the middle item included, the list is reversed.
  ends_exchanged : (old now : List X) (i : ℕ) → length now ≡ length old → length old ≤ i + i + 1
      → ((k : ℕ) → k < i → slice_get now k ≡ option_map of (slice_get old (length old - 1 - k)))
      → ((k : ℕ) → k < length old → length old ≤ k + i → slice_get now k
      ≡ option_map of (slice_get old (length old - 1 - k)))
      → ((k : ℕ) → k + k + 1 ≡ length old → slice_get now k ≡ option_map of (slice_get old k))
      → now ≡ reverse (map of old)
  ends_exchanged old now i count end low high middle =
      let turned = map of old in
      let long : length turned ≡ length old = length-map old of in
      is_reverse turned now (count ∙ sym long) (λ k h.
      let far : length turned - 1 - k ≡ length old - 1 - k = omega (arith, long) in
      let within : k < length old = omega (arith, h, count) in
      rw (far, slice_get-map of old (length old - 1 - k)) (elim (cases_lt k i) [
        | inl before ↦ low k before
        | inr from ↦ elim (cases_lt (k + i) (length old)) [
          | inl inside ↦
              let here : k + k + 1 ≡ length old = omega arith in
              let same : length old - 1 - k ≡ k = omega arith in
              rw same (middle k here)
          | inr past ↦ high k within (omega arith)
        ]
      ]))

  -- For a list without a middle item.
  pub all_exchanged : (old now : List X) (i : ℕ) → ExchangedBelow of old now i → length old ≡ i + i → now
      ≡ reverse (map of old)
  all_exchanged old now i done end =
      ends_exchanged old now i done.count (omega arith) done.low done.high (λ k here. absurd (omega arith))

  -- For a list with a middle item, which is changed last.
  pub all_exchanged_round : (old now : List X) (i : ℕ) (p q : X) → ExchangedBelow of old now i → i + i + 1 ≡ length old
      → slice_get now i ≡ Some p → q ≡ of p → slice_set now i q ≡ reverse (map of old)
  all_exchanged_round old now i p q done end is made =
      let after = slice_set now i q in
      let was : slice_get old i ≡ Some p = sym (done.between i (omega arith) (omega arith)) ∙ is in
      ends_exchanged old after i (length-set now i q ∙ done.count) (omega arith)
      (λ k h. others_are_read now i k q (omega arith) ∙ done.low k h)
      (λ k h from. others_are_read now i k q (omega arith) ∙ done.high k h from)
      (λ k here. let same : k ≡ i = omega arith in
      rw (same, was, ← made) (set_is_read now i q (omega (arith, done.count))))
