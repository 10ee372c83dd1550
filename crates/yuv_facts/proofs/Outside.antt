-- The number of samples outside a range, with one more value.
use Rattle.std.proofs.Common.{◌≡◌, ◌∙◌, ◌+◌, ◌<◌, ◌∷◌, [], ℕ, zero, suc, List, add-one, add-zero, add_assoc, ap, arith, length, sym, take, zero-add}
use Rattle.std.proofs.Math.ListN.{get_or}
use Rattle.std.specs.Prelude.{if◌then◌else◌}
use Rattle.yuv_facts.specs.Statistics.{is_outside, outside_from}
use Rattle.yuv_facts.specs.declared.statistics.NominalRange.{NominalRange}

module _ (range : NominalRange) where
  one : ℕ → ℕ → ℕ
  one value count = if is_outside range value then count else 0

  more_outside : (start : ℕ) (counts : List ℕ) (i d : ℕ) → i < length counts
      → outside_from range start (take (suc i) counts)
      ≡ outside_from range start (take i counts) + one (start + i) (get_or counts i d)
  unfolding one
  more_outside start [] i d within = absurd (omega arith)
  more_outside start (count ∷ counts) zero d within =
      add-zero (one start count) ∙ ap (λ n. one n count) (sym (add-zero start)) ∙ sym (zero-add _)
  more_outside start (count ∷ counts) (suc i) d within =
      let place : start + 1 + i ≡ start + suc i = omega arith in
      ap (λ n. one start count + n) (more_outside (start + 1) counts i d (omega arith))
      ∙ ap (λ n. one start count
      + (outside_from range (start + 1) (take i counts) + one n (get_or counts i d))) place
      ∙ sym (add_assoc (one start count) (outside_from range (start + 1) (take i counts))
      (one (start + suc i) (get_or counts i d)))

  pub outside_more : (counts : List ℕ) (i d : ℕ) → i < length counts
      → outside_from range 0 (take (i + 1) counts)
      ≡ outside_from range 0 (take i counts)
      + (if is_outside range i then get_or counts i d else 0)
  unfolding one
  outside_more counts i d within =
      ap (λ n. outside_from range 0 (take n counts)) (add-one i) ∙ more_outside 0 counts i d within
      ∙ ap (λ n. outside_from range 0 (take i counts) + one n (get_or counts i d)) (zero-add i)
