-- The entries so far hold their indices.
use Rattle.std.proofs.Common.{◌≡◌, ◌%◌, ◌<◌, ℕ, None, Some, slice_index_or}
use Rattle.example_callers.proofs.planes.fill_with_places.Given as goal

abbrev pub invariant-loop-place : goal.invariant-loop-place
invariant-loop-place l = (place : ℕ) → place < l.place → slice_index_or l.entries place None ≡ Some (place % 65536)
