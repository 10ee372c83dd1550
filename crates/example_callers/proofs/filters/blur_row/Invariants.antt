-- The pixels so far are means.
use Rattle.std.proofs.Common.{ℕ, ◌≡◌, ◌+◌, ◌/◌, ◌<◌, Some, slice_get}
use Rattle.example_callers.specs.Filters.{three_of}
use Rattle.example_callers.proofs.filters.blur_row.Given as goal

abbrev pub invariant-loop-x : goal.invariant-loop-x
invariant-loop-x l = (k : ℕ) → k < l.x → slice_get l.target k ≡ Some
    ((three_of (slice_get l.above) k + three_of (slice_get l.row) k +
    three_of (slice_get l.below) k) / 9)
