-- No value from here on occurs.
use Rattle.std.proofs.Common.{◌≡◌, ◌≤◌, ℕ}
use Rattle.std.specs.Prelude.{slice_index}
use Rattle.yuv_facts.proofs.statistics.maximum.Given as goal

abbrev pub invariant-loop-value : goal.invariant-loop-value
invariant-loop-value l = (k : ℕ) → l.value ≤ k → slice_index l.counts k ≡ 0
