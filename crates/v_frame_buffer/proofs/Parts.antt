-- A list keeps its length when a part of it is overwritten.
use Rattle.std.proofs.Common.{ℕ, ◌≡◌, ◌-◌, ◌++◌, List, length, take, drop, slice_range, refl, sym, ◌∙◌, ap, arith}
use Rattle.std.proofs.lemmas.List.{length-append, length-drop, take_all, take-append-le}
use Rattle.std.specs.List.{refill, length_refill}
use Rattle.v_frame_buffer.specs.Part.{with_part}

module _ {T : Type 0} where
  pub length-refilled : (xs ys : List T) → length (refill (length xs) xs ys) ≡ length xs
  length-refilled xs ys = sym (length_refill (length xs) xs ys refl)

  pub length-with_part : (xs : List T) (start : ℕ) (ys : List T) → length (with_part xs start ys) ≡ length xs
  length-with_part xs start ys = length-refilled xs (take start xs ++ (ys ++ drop (length ys) (drop start xs)))

  -- A part that begins with the first entry.
  pub front_part : (xs ys : List T) → with_part xs 0 ys ≡ refill (length xs) xs ys
  front_part xs ys =
      let behind = drop (length ys) xs in
      take-append-le (length xs) (ys ++ behind) (drop (length (ys ++ behind)) xs)
      (simp (length-append, length-drop) (omega arith))

  pub front_range : (xs : List T) (n : ℕ) → length xs ≡ n → slice_range xs 0 n ≡ xs
  front_range xs n e =
      let all : n - 0 ≡ n = omega arith in
      ap (λ k. take k xs) all ∙ take_all n xs (omega arith)
