-- The entries so far are the first entries of the source, and there is memory for the others.
use Rattle.std.proofs.Common.{◌≡◌, ◌+◌, length, take}
use Rattle.v_frame_buffer.proofs.aligned.AlignedData.clone.Given as goal

abbrev pub invariant-loop-entry : goal.invariant-loop-entry
invariant-loop-entry g l = record {
  entries : l.filling.items ≡ take l.entry-index l.entry-items;
  room : l.entry-index + l.filling.spare ≡ length l.entry-items;
}
