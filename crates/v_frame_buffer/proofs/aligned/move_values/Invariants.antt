-- The values so far and the entries ahead are all entries. The entries ahead have values, and there is memory for
-- them.
use Rattle.std.proofs.Common.{◌≡◌, ◌+◌, ◌++◌, All, IsSome, length, map, drop, Some}
use Rattle.v_frame_buffer.proofs.aligned.move_values.Given as goal

abbrev pub invariant-loop-entry : goal.invariant-loop-entry
invariant-loop-entry g l = record {
  values : map Some l.values.items ++ drop l.entry-index l.entry-items ≡ l.initial.entry-items;
  full : All IsSome (drop l.entry-index l.entry-items);
  room : l.entry-index + l.values.spare ≡ length l.initial.entry-items;
}
