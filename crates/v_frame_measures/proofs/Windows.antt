-- Parts of lists by their indexes.
use Rattle.std.proofs.Common.{ℕ, suc, zero, ◌≡◌, ◌+◌, ◌≤◌, ◌<◌, List, ◌∷◌, length, take, drop, map, refl, ap, ◌∙◌, arith}
use Rattle.std.specs.Prelude.{slice_index}
use Rattle.std.specs.List.{range_with_len}
use Rattle.std.specs.Simd.Lanes.{Each1}
use Rattle.std.proofs.lemmas.List.{drop_more, take-take}
use Rattle.std.proofs.lemmas.List.FromFn.{get_or-range_with_len, length-range_with_len, get_or-map-range_with_len, length-map-range_with_len}
use Rattle.std.proofs.lemmas.Simd.{Each1-from_get_or}
use Rattle.std.proofs.Math.Nat.{mod-eq_of_lt}
use Rattle.v_frame_measures.specs.BlockSums.{window_sum}
use Rattle.v_frame_measures.proofs.ByteLanes.{plus}

part_mapped : (xs : List ℕ) (n i : ℕ) → i + n ≤ length xs → take n (drop i xs) ≡ map (slice_index xs) (range_with_len i n)
part_mapped xs zero i h = refl
part_mapped xs (suc n) i h =
    rw (drop_more xs i 0 (omega arith)) (ap (λ r. slice_index xs i ∷ r) (part_mapped xs n (i + 1) (omega arith)))

pub eight_mapped : (xs : List ℕ) (i m : ℕ) → m ≡ 8 → i + 8 ≤ length xs
    → take 8 (take m (drop i xs)) ≡ map (slice_index xs) (range_with_len i 8)
eight_mapped xs i m few h = rw few (take-take 8 8 (drop i xs) (omega arith) ∙ part_mapped xs 8 i h)

pub next_mapped : {B : Type 0} (f : ℕ → B) (n i : ℕ) → map f (range_with_len (i + 1) n) ≡ map (λ j. f (j + 1)) (range_with_len i n)
next_mapped f zero i = refl
next_mapped f (suc n) i = ap (λ r. f (i + 1) ∷ r) (next_mapped f n (i + 1))

pub each_of_range : (P : ℕ → Type 0) (a n : ℕ) → ((j : ℕ) → a ≤ j → j < a + n → P j) → Each1 P (range_with_len a n)
each_of_range P a n each =
    Each1-from_get_or P (range_with_len a n) 0
    (λ i h.
    let within : i < n = omega (arith, h, length-range_with_len a n) in
    rw (get_or-range_with_len a n i 0 within) (each (a + i) (omega arith) (omega (arith, within))))

pub each_mapped : {B : Type 0} (P : B → Type 0) (f : ℕ → B) (a n : ℕ) → ((j : ℕ) → a ≤ j → j < a + n → P (f j))
    → Each1 P (map f (range_with_len a n))
each_mapped P f a n each =
    Each1-from_get_or P (map f (range_with_len a n)) (f 0)
    (λ i h.
    let within : i < n = omega (arith, h, length-map-range_with_len f a n) in
    rw (get_or-map-range_with_len f a n i (a + i) (f 0) within refl) (each (a + i) (omega arith) (omega (arith, within))))

-- Four numbers whose sum fits 32 bits are added without overflow.
pub unwrapped : (above below : List ℕ) (j : ℕ) → window_sum above below j < 4294967296
    → plus (plus (slice_index above j) (slice_index below j)) (plus (slice_index above (j + 1)) (slice_index below (j + 1)))
    ≡ window_sum above below j
unwrapped above below j h =
    let one : plus (slice_index above j) (slice_index below j) ≡ slice_index above j + slice_index below j =
    mod-eq_of_lt (omega (arith, h)) in
    let two : plus (slice_index above (j + 1)) (slice_index below (j + 1)) ≡ slice_index above (j + 1) + slice_index below (j + 1) =
    mod-eq_of_lt (omega (arith, h)) in
    rw (one, two) (mod-eq_of_lt h)
