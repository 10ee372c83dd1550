-- The number of samples with one of the values so far that are outside the range.
use Rattle.std.proofs.Common.{◌≡◌, ◌-◌, ◌^◌, min, take}
use Rattle.yuv_facts.specs.Statistics.{outside_from}
use Rattle.yuv_facts.proofs.statistics.outside.Given as goal

abbrev pub invariant-loop-value : goal.invariant-loop-value
invariant-loop-value l =
    l.outside ≡ min (outside_from l.range 0 (take l.value l.counts)) (2 ^ 64 - 1)
