-- Loops that add up the items of a span, each multiplied by the number of units that a target pixel covers of it.
use Rattle.std.proofs.Common.{ℕ, ◌≡◌, ◌+◌, ◌-◌, ◌*◌, ◌/◌, ◌^◌, ◌<◌, ◌≤◌, List, length, drop, get_or}
use Rattle.std.proofs.Common.{inl, inr, refl, sym, arith}
use Rattle.std.proofs.Math.Nat.{mul-le-mul, mul-le-mul_left, mul-le-mul_right, div-lt_iff_lt-mul, one-le-pow}
use Rattle.std.proofs.lemmas.Bool.{cases_lt}
use Rattle.v_frame_resize.specs.Resize.{overlap, weighted, weighted_from}
use Rattle.v_frame_resize.specs.Spans.{IsFirst, IsSpan}
use Rattle.v_frame_resize.specs.declared.span.Span.{Span}
use Rattle.v_frame_resize.proofs.Weights.{from_first, up_to_last, one_more_weighed, covered, covered_more}
use Rattle.v_frame_resize.proofs.Weights.{covered_within, none_before, none_behind}

-- The sum so far plus the sum of the remaining items is the whole sum, and no item is above `most`.
pub record SumSoFar {X : Type 0} (count : X → ℕ) (most source target x : ℕ) (xs : List X) (i sum : ℕ) : Type 0 where
  pub so_far : sum + weighted_from i (λ k. overlap source target k x) count (drop i xs)
      ≡ weighted (λ k. overlap source target k x) count xs
  pub bound : sum ≤ most * covered source target i x

module _ {X : Type 0} (count : X → ℕ) (most source target x : ℕ) (xs : List X) where
  pub sum_begun : (first : ℕ) → first * target ≤ x * source → SumSoFar count most source target x xs first 0
  sum_begun first before = record {
    so_far =
        let e : 0 + first ≡ first = omega arith in
        let rest = from_first (λ k. overlap source target k x) count first 0 xs
        (λ k h. none_before source target first x before k (omega arith)) in
        omega (arith, rw e at rest);
    bound = omega arith;
  }

  pub sum_more : (i sum units part : ℕ) (d : X) → i < length xs → units ≡ overlap source target i x
      → part ≡ count (get_or xs i d) → part ≤ most → SumSoFar count most source target x xs i sum
      → SumSoFar count most source target x xs (i + 1) (sum + units * part)
  sum_more i sum units part d inside covers counts small so_far = record {
    so_far =
        let next = one_more_weighed (λ k. overlap source target k x) count i xs d inside in
        let product : units * part ≡ overlap source target i x * count (get_or xs i d) = rw (covers, counts) refl in
        omega (arith, next, product, so_far.so_far);
    bound =
        let more : units * part ≤ overlap source target i x * most = rw covers (mul-le-mul_left _ small) in
        rw (covered_more source target i x) (omega (arith, more, so_far.bound));
  }

  pub sum_done : (i stop sum : ℕ) → (x + 1) * source ≤ stop * target → stop ≤ i
      → SumSoFar count most source target x xs i sum → sum ≡ weighted (λ k. overlap source target k x) count xs
  sum_done i stop sum behind end so_far =
      let nothing = up_to_last (λ k. overlap source target k x) count i (drop i xs)
      (λ k h. none_behind source target stop x behind k (omega arith)) in
      omega (arith, nothing, so_far.so_far)

-- A sum is at most `most` for each covered unit.
pub sum_within : {X : Type 0} {count : X → ℕ} {most source target x i sum : ℕ} {xs : List X}
    → SumSoFar count most source target x xs i sum → sum ≤ most * source
sum_within {X} {count} {most} {source} {target} {x} {i} so_far =
    omega (arith, so_far.bound, mul-le-mul_left most (covered_within source target i x))

-- A target pixel begins inside the source.
pub first_inside : (source target x first : ℕ) → 0 < source → x < target → IsFirst source target x first
    → first < source
first_inside source target x first some within is = elim (cases_lt first source) [
  | inl h ↦ h
  | inr beyond ↦
      let high : source ≤ first = omega arith in
      let low : x + 1 ≤ target = omega arith in
      absurd (omega (arith, mul-le-mul_right target high, mul-le-mul_right source low, is.before, is.begins))
]

-- A source pixel that is neither the first nor the last one of a span is fully covered.
pub inner_units : (source target x i : ℕ) (span : Span) → IsSpan source target x span → span.first < i
    → i + 1 < span.stop → overlap source target i x ≡ target
inner_units source target x i span is past before =
    let low : span.first + 1 ≤ i = omega arith in
    let high : i + 2 ≤ span.stop = omega arith in
    omega (
      arith,
      mul-le-mul_right target low,
      mul-le-mul_right target high,
      is.first.begins,
      is.ends,
      is.end,
    )

module _ {X : Type 0} {count : X → ℕ} {most source target x : ℕ} {xs : List X} {span : Span}
    (is : IsSpan source target x span) (long : length xs ≡ source) where
  -- The share of the first item.
  pub head_added : {part : ℕ} (d : X) → part ≡ count (get_or xs span.first d) → part ≤ most
      → SumSoFar count most source target x xs (span.first + 1) (span.head * part)
  head_added {part} d counts small =
      let begun = sum_begun count most source target x xs span.first is.first.before in
      let none : 0 + span.head * part ≡ span.head * part = omega arith in
      rw none at (sum_more count most source target x xs span.first 0 span.head part d
      (omega (arith, is.order, is.inside, long)) is.head counts small begun)

  -- One item that is fully covered.
  pub inner_added : {i part : ℕ} (head inner : ℕ) (d : X) → span.first < i → i + 1 < span.stop
      → part ≡ count (get_or xs i d) → part ≤ most → SumSoFar count most source target x xs i (head + target * inner)
      → SumSoFar count most source target x xs (i + 1) (head + target * (inner + part))
  inner_added {i} {part} head inner d past before counts small so_far =
      let units = inner_units source target x i span is past before in
      let both : head + target * inner + target * part ≡ head + target * (inner + part) = omega arith in
      rw both at (sum_more count most source target x xs i (head + target * inner) target part d
      (omega (arith, before, is.inside, long)) (sym units) counts small so_far)

  -- The share of the last item, with which the sum is complete.
  pub tail_added : {i sum part : ℕ} (d : X) → i ≡ span.stop - 1
      → part ≡ count (get_or xs (span.stop - 1) d) → part ≤ most → SumSoFar count most source target x xs i sum
      → SumSoFar count most source target x xs span.stop (sum + span.tail * part)
  tail_added {i} {sum} {part} d last counts small so_far =
      let stop : i + 1 ≡ span.stop = omega (arith, last, is.order) in
      let here : part ≡ count (get_or xs i d) = rw last counts in
      let tail : span.tail ≡ overlap source target i x = rw last is.tail in
      rw stop at (sum_more count most source target x xs i sum span.tail part d
      (omega (arith, last, is.order, is.inside, long)) tail here small so_far)

  pub whole_added : {i sum : ℕ} → i ≡ span.stop → SumSoFar count most source target x xs i sum
      → sum ≡ weighted (λ k. overlap source target k x) count xs
  whole_added {i} {sum} end so_far =
      sum_done count most source target x xs i span.stop sum (rw (← is.end) is.behind) (omega arith) so_far

-- The values of pixels of one byte or two bytes fit 16 bits.
pub values_fit : (n : ℕ) → 0 < n → n < 3 → 256 ^ n ≤ 65536
values_fit n some few = elim (cases_lt n 2) [
  | inl one ↦ let e : n ≡ 1 = omega arith in rw e (omega arith)
  | inr two ↦ let e : n ≡ 2 = omega arith in rw e (omega arith)
]

-- A mean of values is at most the largest value.
pub mean_within : (sum most area : ℕ) → 0 < area → sum ≤ most * area → (sum + area / 2) / area ≤ most
mean_within sum most area some within =
    let less : sum + area / 2 < (most + 1) * area = omega (arith, within) in
    let below : (sum + area / 2) / area < most + 1 = (div-lt_iff_lt-mul {k = area} {x = sum + area / 2} {y = most + 1}
    some).1 less in
    omega (arith, below)

pub values_some : (n : ℕ) → 0 < 256 ^ n
values_some n = omega (arith, one-le-pow n 256 (omega arith))

-- A sum of values over this number of units fits its type.
pub sum_fits : {size bytes units sum : ℕ} → (0 < size) × (size < 3) → bytes ≡ size → units ≤ 2 ^ 48
    → sum ≤ (256 ^ bytes - 1) * units → sum < 2 ^ 64
sum_fits {size} {bytes} byte_or_two same small within =
    let values : 256 ^ bytes ≤ 65536 = rw same (values_fit size byte_or_two.0 byte_or_two.1) in
    let most : 256 ^ bytes - 1 ≤ 65535 = omega (arith, values) in
    omega (arith, mul-le-mul most small, within)

pub area_fits : {size bytes sum : ℕ} (width height : ℕ) → (0 < size) × (size < 3) → bytes ≡ size → width * height ≤ 2 ^ 48
    → sum ≤ (256 ^ bytes - 1) * width * height → sum < 2 ^ 64
area_fits width height byte_or_two same small within = sum_fits byte_or_two same small (omega (arith, within))
