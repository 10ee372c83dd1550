-- The counts of the values so far have grown, and the others are unchanged.
use Rattle.std.proofs.Common.{◌≡◌, ◌+◌, ◌-◌, ◌^◌, ◌<◌, ◌≤◌, ℕ, min}
use Rattle.std.specs.Prelude.{slice_index}
use Rattle.yuv_facts.proofs.values.add_counts.Given as goal

abbrev pub invariant-loop-value : goal.invariant-loop-value
invariant-loop-value l = record {
  below : (k : ℕ) → k < l.value → slice_index l.counts k
      ≡ min (slice_index l.initial.counts k + slice_index l.table k) (2 ^ 64 - 1);
  above : (k : ℕ) → l.value ≤ k → slice_index l.counts k ≡ slice_index l.initial.counts k;
}
